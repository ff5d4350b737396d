-- What calls leave of an exchange: it only grows.
use Rattle.std.specs.Option.{option_map}
use Rattle.std.specs.Prelude.{ℕ, ◌+◌, List, ◌++◌, ◌≡◌, Option, ◌≤◌, length, All, ⊤, None, Some}
use Rattle.enf_io.specs.meaning.Exchange.{Exchange}

-- the exchange of a device after these bytes were given to it
abbrev pub with_given : List ℕ → Exchange → Exchange
with_given bytes x = record { input = x.input; taken = x.taken; given = x.given ++ bytes; marks = x.marks }

-- a device that tells was given these bytes, and else is as it was
abbrev pub Gave : List ℕ → Option Exchange → Option Exchange → Type 0
Gave bytes before after = after ≡ option_map (with_given bytes) before

-- a mark counts no less than one exchange has, and no more than another
pub record IsMarkBetween (x y : Exchange) (mark : ℕ × ℕ) : Type 0 where
  pub taken_from : x.taken ≤ mark.0
  pub taken_to : mark.0 ≤ y.taken
  pub given_from : length x.given ≤ mark.1
  pub given_to : mark.1 ≤ length y.given

-- the input is the same, what was taken, given and marked has only grown, and each new mark stands between the two
pub record Grew (x y : Exchange) : Type 0 where
  pub input : y.input ≡ x.input
  pub taken : x.taken ≤ y.taken
  pub given : (more : List ℕ) × (y.given ≡ x.given ++ more)
  pub marks : (more : List (ℕ × ℕ)) × (y.marks ≡ x.marks ++ more) × All (IsMarkBetween x y) more

-- a device tells as before, and what it tells has only grown
abbrev pub GrewWhereTold : Option Exchange → Option Exchange → Type 0
GrewWhereTold None None = ⊤
GrewWhereTold (Some x) (Some y) = Grew x y
GrewWhereTold before after = ⊥
