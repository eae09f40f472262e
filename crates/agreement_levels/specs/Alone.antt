-- A board alone: "Sending is to all n boards, the sender included; the own copy travels like the rest."
use Rattle.std.specs.Prelude.{false, List, [], ◌∷◌, ℕ}
use Rattle.base.specs.Sets.{Set}
use Rattle.agreement.specs.History.{Instance}

-- a vote of one board
abbrev pub alone_instance : ℕ → List ℕ → Instance
alone_instance a plan = record { n = 1; t = 0; agreement = a; plan = plan }

-- no board is faulty
abbrev pub nobody : Set
nobody = λ _. false

-- the range of the readings 0 to 65,535
abbrev pub widest : List ℕ
widest = 2 ∷ 0 ∷ 255 ∷ 255 ∷ 3 ∷ []
