-- Texts each of whose bytes is printed as it is.
use Rattle.save_codec.proofs.Vocabulary.{◌≡◌, ◌++◌, ◌∷◌, [], ℕ, List, length, subst, sym, ap, ◌∙◌, arith, append_assoc, flat_map, prefix_len, is_of_kind, escaped, quoted, escaped-front, Plain}
use Rattle.std.proofs.Common.{take_all}

pub all_plain : (text : List ℕ) → prefix_len (is_of_kind Plain) text ≡ length text → flat_map escaped text ≡ text
all_plain text all = subst (λ l. flat_map escaped l ≡ l) (take_all (prefix_len (is_of_kind Plain) text) text (omega (arith, all))) (escaped-front text)

-- a text of such bytes stands between quotes
pub quotes : (text bytes a b c : List ℕ) → flat_map escaped text ≡ text → bytes ≡ 34 ∷ a → a ≡ text ++ b → b ≡ 34 ∷ c → bytes ≡ quoted text ++ c
quotes text bytes a b c plain first between last =
    first ∙ ap (λ l. 34 ∷ l) (between ∙ (λ i. sym plain i ++ last i) ∙ sym (append_assoc (flat_map escaped text) (34 ∷ []) c))
