-- The outermost of operators that come one after another.
use Rattle.past_state.proofs.Vocabulary.{Formula, inner}
use Rattle.std.specs.Prelude.{List, [], ◌∷◌, length, drop}

-- the outermost of operators that come one after another, each after those of its operands, with those that came
-- before them; the last one first
abbrev pub outer_onto : List Formula → List Formula → List Formula
outer_onto before [] = before
outer_onto before (f ∷ fs) = outer_onto (f ∷ drop (length (inner f)) before) fs
