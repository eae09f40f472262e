use Rattle.std.proofs.Common.{◌≡◌, ℕ, rules, sym, subst}
use Rattle.std.specs.List.{fold}
use Rattle.senders.specs.Senders.{union}
use Rattle.party_fields.specs.Inner.{Unites}
use Rattle.party_fields.proofs.Sets.{unites}
use Rattle.party_fields.proofs.union_of.Goals as goal

pub returns : goal.returns
returns c =
    let e : c.fold.result ≡ fold union 0 c.args.sets.now = search rules in
    subst (λ (m : ℕ). Unites c.args.sets.now m) (sym e) (unites c.args.sets.now)
