-- What the questions of a start or take find, question by question.
use mathlib.Core.Path.{◌≡◌, sym, ap, ◌∙◌, subst}
use mathlib.Core.Bool.{Bool, true, false}
use mathlib.Core.List.{List}
use Prim.Native.Nat.{ℕ, ◌+◌, ◌*◌, ◌≤◌, ◌<◌}
use native.Mathlib.Omega.{arith}
use lib.Dec.{T}
use lib.ListN.{length, get_or}
use Rattle.std.specs.Prelude.{Option, Some, None, IfSome, Result, Ok, Err, IsErrAnd}
use Rattle.std.proofs.lemmas.Result.{err_from_is_err_and}
use Rattle.base.specs.Limits.{level_count, outgoing_size}
use Rattle.base.specs.Found.{Found, refused}
use Rattle.base.specs.Verdict.{Verdict, refused_by}
use Rattle.base.specs.Question.{number_of, RefusesAtZero}
use Rattle.base.specs.declared.Question.{Question}
use Rattle.base.specs.declared.Question.TheVariants.{OnPlan, NotStarted, Sender, Agreement}
use Rattle.base.specs.declared.Refusal.{Refusal}
use Rattle.base.proofs.Bools.{true→T, false→not-T}
use Rattle.senders.specs.Senders.{is_in}
use Rattle.message.specs.declared.Message.{Message}
use Rattle.format.specs.declared.Failure.{Failure}
use Rattle.message.specs.Refusals.{refusal_number}
use Rattle.message.specs.Message.{in_table}
use Rattle.message.specs.Reading.{exact_message}
use Rattle.message.proofs.RoundTrip.{table_parts}
use Rattle.plan.specs.Plan.{Plan}
use Rattle.level_counts.proofs.Slots.{slot_lt}
use Rattle.level.specs.Level.{slot, slot_count}
use Rattle.level.specs.declared.Level as CodeLevel
use Rattle.journal.specs.declared.Record.{Record}
use Rattle.journal.specs.declared.Record.TheVariants.{Start, Taken}
use Rattle.journal.specs.Journal.{record_bytes}
use Rattle.party.specs.declared.Vote.{Vote}
use Rattle.party.specs.Party.{Party, started, held_by}
use Rattle.party.specs.Valid.{party_valid}
use Rattle.party.specs.Tie.{party_in}
use Rattle.party.specs.Inner.{set_count}
use Rattle.party.proofs.Ties.{held_in}
use Rattle.party_life.specs.Life.{replayed, Fits}
use Rattle.party_life.proofs.Fits.{fitting_start, fitting_taken}
use Rattle.board_calls.specs.Calls.{Entry, fitting, take_questions}
use Rattle.board_calls.specs.Tie.{as_position}
use Rattle.board_laws.proofs.Inputs.{no_none}
use Rattle.board_laws.proofs.Questions.{fitted as has_room, start_again, start_off, start_left, take_door, take_sender, take_broken, take_number, take_held, take_left}
use Rattle.board_questions.specs.declared.Door.{Door}
use Rattle.board_questions.specs.Inner.{AtDoor, Fitting, Asks, start_from, AsksStart, AsksTake}

-- ---- what the questions find

module _ {p : Party} {room used out : ℕ} {q : Found Entry} where
  -- a question that is answered by no, with no place of its own
  refused_asks : (question : Question) {r : Refusal} → q ≡ refused (number_of question) 0 → RefusesAtZero question r → Asks p room used out q (Err r)
  refused_asks question e z = record { finds = e ∙ ap (λ (y : Refusal). refused (number_of y.question) y.place) (sym z); fits = tt }

  -- the same where `?` hands it on
  passed_on : (question : Question) {a : Result (Option Record) Refusal} → q ≡ refused (number_of question) 0 → IsErrAnd a (RefusesAtZero question) → Asks p room used out q a
  passed_on question {a} e i =
      let y = err_from_is_err_and a i in
      subst (Asks p room used out q) (sym y.1) (refused_asks question e y.2)

  -- a record that has room
  recorded_asks : (r : Record) → T (party_valid p) → outgoing_size ≤ out → Fits p r → q ≡ fitting room used r (replayed p r) → used + length (record_bytes r) ≤ room
      → Asks p room used out q (Ok (Some r))
  recorded_asks r v o f e h = record { finds = e ∙ has_room room used r (replayed p r) h; fits = (v, o, f, h) }

-- a party for which the door is open
opened : (d : Door) → AtDoor d (Ok tt) → (p : Party) → d.valid ≡ party_valid p → T (party_valid p)
opened d h p e = true→T (sym e ∙ h.0)

-- ---- a start

module _ (d : Door) (agreement : ℕ) (begun : Bool) (x : Option ℕ) {a : Result (Option Record) Refusal} where
  pub start_shut : (q : Question) → AtDoor d (Err q) → IsErrAnd a (RefusesAtZero q) → AsksStart d agreement begun x a
  start_shut q h i = record { asks = λ p g s n e. passed_on q (h p e _) i }

module _ (d : Door) (agreement : ℕ) (begun : Bool) (x : Option ℕ) (h : AtDoor d (Ok tt)) where
  pub start_13 : begun ≡ true → {r : Refusal} → RefusesAtZero NotStarted r → AsksStart d agreement begun x (Err r)
  start_13 b z = record { asks = λ p g s n e. refused_asks NotStarted (start_again p (as_position x) d.room d.used d.out (opened d h p e) h.1 h.2 (s ∙ b)) z }

  module _ (b : begun ≡ false) where
    pub start_12 : x ≡ None → {r : Refusal} → RefusesAtZero OnPlan r → AsksStart d agreement begun x (Err r)
    start_12 k z = record {
      asks = λ p g s n e. refused_asks OnPlan (start_off p (as_position x) d.room d.used d.out (opened d h p e) h.1 h.2 (s ∙ b) (ap as_position k)) z;
    }

    module _ (y : ℕ) (k : x ≡ Some y) where
      module _ (p : Party) (g : p.agreement ≡ agreement) (s : started p ≡ begun) (n : IfSome x (λ z. z < p.plan.count)) (e : d.valid ≡ party_valid p) where
        on : y < p.plan.count
        on = subst (λ (z : Option ℕ). IfSome z (λ w. w < p.plan.count)) k n

        -- only 17 is left
        left : start_from p x d.room d.used d.out ≡ fitting d.room d.used (Start agreement y) (replayed p (Start agreement y))
        left =
            start_left p (as_position x) d.room d.used d.out (opened d h p e) h.1 h.2 (s ∙ b) (λ i. no_none p (opened d h p e) y on (sym (ap as_position k) ∙ i))
            ∙ ap (λ (r : Record). fitting d.room d.used r (replayed p r)) (λ i. Start (g i) (ap as_position k i))

      pub start_17 : (q : Question) → Fitting d (Start agreement y) (Err q) → {a : Result (Option Record) Refusal} → IsErrAnd a (RefusesAtZero q) → AsksStart d agreement begun x a
      start_17 q f i = record { asks = λ p g s n e. passed_on q (left p g s n e ∙ f _) i }

      pub start_found : Fitting d (Start agreement y) (Ok tt) → AsksStart d agreement begun x (Ok (Some (Start agreement y)))
      start_found f = record {
        asks = λ p g s n e.
            recorded_asks (Start agreement y) (opened d h p e) h.1 (fitting_start p agreement y (sym g, false→not-T (s ∙ b), on p g s n e)) (left p g s n e) f;
      }

-- ---- a take

module _ (d : Door) (v : Vote) (sets : List ℕ) (s : ℕ) (bytes : List ℕ) where
  pub take_shut : (q : Question) → AtDoor d (Err q) → {a : Result (Option Record) Refusal} → IsErrAnd a (RefusesAtZero q) → AsksTake d v sets s bytes a
  take_shut q h i = record {
    asks = λ plan ls w e. passed_on q (take_door (party_in v plan ls sets) s bytes d.room d.used d.out (number_of q) (h (party_in v plan ls sets) e)) i;
  }

  module _ (h : AtDoor d (Ok tt)) where
    pub take_14 : v.n ≤ s → {r : Refusal} → RefusesAtZero Sender r → AsksTake d v sets s bytes (Err r)
    take_14 l z = record {
      asks = λ plan ls w e.
          refused_asks Sender (take_sender (party_in v plan ls sets) s bytes d.room d.used d.out (opened d h (party_in v plan ls sets) e) h.1 h.2 l) z;
    }

    module _ (l : s < v.n) where
      pub take_15 : (x : Failure) → exact_message bytes ≡ Err x → {r : Refusal} → refused_by r ≡ Verdict.Refused (refusal_number x.fault) x.at → AsksTake d v sets s bytes (Err r)
      take_15 x i {r} k = record {
        asks = λ plan ls w e.
            let n : refusal_number x.fault ≡ number_of r.question = cc in
            let at : x.at ≡ r.place = cc in record {
              finds = take_broken (party_in v plan ls sets) s bytes d.room d.used d.out (opened d h (party_in v plan ls sets) e) h.1 h.2 l x.fault x.at i ∙ (λ z. refused (n z) (at z));
              fits = tt;
            };
      }

      module _ (m : Message) (i : exact_message bytes ≡ Ok m) where
        pub take_16 : (m.number ≡ v.agreement → ⊥) → {r : Refusal} → RefusesAtZero Agreement r → AsksTake d v sets s bytes (Err r)
        take_16 k z = record {
          asks = λ plan ls w e.
              refused_asks Agreement (take_number (party_in v plan ls sets) s bytes d.room d.used d.out (opened d h (party_in v plan ls sets) e) h.1 h.2 l m i k) z;
        }

        module _ (o : m.number ≡ v.agreement) (t : in_table m ≡ true) {k : ℕ} (f : k ≡ slot_count * m.level + slot m.body) {b : Bool} (j : b ≡ is_in (get_or sets k 0) s) where
          held : (plan : Plan) (ls : List CodeLevel.Level) → length ls ≡ level_count → held_by (party_in v plan ls sets) s m ≡ b
          held plan ls w =
              let g : m.level < length ls = omega (arith, (table_parts m t).0) in
              held_in v plan ls sets m t g s ∙ ap (λ (y : ℕ). is_in (get_or sets y 0) s) (sym f) ∙ sym j

          pub take_again : b ≡ true → AsksTake d v sets s bytes (Ok None)
          take_again g = record {
            asks = λ plan ls w e. record {
              finds = take_held (party_in v plan ls sets) s bytes d.room d.used d.out (opened d h (party_in v plan ls sets) e) h.1 h.2 l m i o (held plan ls w ∙ g);
              fits = tt;
            };
          }

          module _ (g : b ≡ false) where
            -- only 17 is left
            left_new : (plan : Plan) (ls : List CodeLevel.Level) → length ls ≡ level_count → d.valid ≡ party_valid (party_in v plan ls sets)
                → take_questions (party_in v plan ls sets) s bytes d.room d.used d.out ≡ fitting d.room d.used (Taken s m) (replayed (party_in v plan ls sets) (Taken s m))
            left_new plan ls w e =
                take_left (party_in v plan ls sets) s bytes d.room d.used d.out (opened d h (party_in v plan ls sets) e) h.1 h.2 l m i o (held plan ls w ∙ g)

            pub take_17 : (q : Question) → Fitting d (Taken s m) (Err q) → {a : Result (Option Record) Refusal} → IsErrAnd a (RefusesAtZero q) → AsksTake d v sets s bytes a
            take_17 q n z = record { asks = λ plan ls w e. passed_on q (left_new plan ls w e ∙ n (replayed (party_in v plan ls sets) (Taken s m))) z }

            pub take_found : Fitting d (Taken s m) (Ok tt) → AsksTake d v sets s bytes (Ok (Some (Taken s m)))
            take_found n = record {
              asks = λ plan ls w e.
                  recorded_asks (Taken s m) (opened d h (party_in v plan ls sets) e) h.1 (fitting_taken (party_in v plan ls sets) s m (o, l, true→T t)) (left_new plan ls w e) n;
            }

-- the set of senders of a message of the table is one of the party's
pub place_below : (m : Message) → in_table m ≡ true → slot_count * m.level + slot m.body < set_count
place_below m t = let w = table_parts m t in omega (arith, w.0, slot_lt m.body w.1)
