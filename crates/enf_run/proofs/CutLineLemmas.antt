-- Parts of a text, and lines that are cut.
use Rattle.enf_run.proofs.Vocabulary.{ℕ, ◌<◌, List, [], ◌∷◌, length, take, drop, sym, ap, arith, length-drop, refl, take-append-drop, ActedStep, out_step, line_of, OutStep, IsPart, IsCutLine}

-- of a text with something in it, nothing is a part
pub part_none : (text : List ℕ) → 0 < length text → IsPart [] text
part_none text some = record { rest = text; some = λ none. omega (arith, some, ap length none); split = refl }

-- and the first bytes are one, where they are not all
pub part_take : (text : List ℕ) (count : ℕ) → count < length text → IsPart (take count text) text
part_take text count less =
    record { rest = drop count text; some = λ none. omega (arith, less, length-drop count text, ap length none); split = sym (take-append-drop count text) }

-- a line has something in it
pub line_some : (names : List (List ℕ)) (out : OutStep) → 0 < length (line_of names out)
line_some names out = omega arith

-- where nothing of a line was given it is cut
pub cut_none : (names : List (List ℕ)) (behind : List ActedStep) → IsCutLine names behind []
cut_none names [] = refl
cut_none names (next ∷ behind) = part_none (line_of names (out_step next)) (line_some names (out_step next))
