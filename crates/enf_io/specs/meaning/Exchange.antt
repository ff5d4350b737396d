-- All that is seen of a gate or a sink: its bytes and marks, and what calls alone exchanged.
use Rattle.std.specs.Prelude.{ℕ, List, drop, ◌≡◌, [], Option, IfSome, take, ◌-◌, length, map, ⊤, Some, All}

-- a device's whole input, how many bytes of it were taken, the bytes given to it, and its marks: for each read,
-- how many bytes had been taken and given when it began
pub record Exchange : Type 0 where
  pub input : List ℕ
  pub taken : ℕ
  pub given : List ℕ
  pub marks : List (ℕ × ℕ)

-- the input that was not taken yet
abbrev pub input_left : Exchange → List ℕ
input_left x = drop x.taken x.input

-- where the device tells, its whole input was taken
abbrev pub IsAtEnd : Option Exchange → Type 0
IsAtEnd told = IfSome told (λ x. input_left x ≡ [])

-- the bytes that were taken
abbrev pub taken_bytes : Exchange → List ℕ
taken_bytes x = take x.taken x.input

-- the exchange of the calls alone, counted from where they began
abbrev pub exchange_since : Exchange → Exchange → Exchange
exchange_since x y = record {
  input = input_left x;
  taken = y.taken - x.taken;
  given = drop (length x.given) y.given;
  marks = map (λ mark. (mark.0 - x.taken, mark.1 - length x.given)) (drop (length x.marks) y.marks);
}

-- where a device tells, P holds of the exchange of the calls
abbrev pub OfCalls : (Exchange → Type 0) → Option Exchange → Option Exchange → Type 0
OfCalls P (Some x) (Some y) = P (exchange_since x y)
OfCalls P before after = ⊤

-- at each mark, P holds of the bytes taken and the bytes given by then
abbrev pub AtEachMark : (List ℕ → List ℕ → Type 0) → Exchange → Type 0
AtEachMark P x = All (λ mark. P (take mark.0 x.input) (take mark.1 x.given)) x.marks

-- what a device tells of its bytes, if it does, its counts of faults, how many of the bytes given it holds back still,
-- and at how many reads it held some
pub record Stream : Type 0 where
  pub told : Option Exchange
  pub read_faults : ℕ
  pub write_faults : ℕ
  pub held : ℕ
  pub late_reads : ℕ
