-- What is copied item by item.
use Rattle.windows.proofs.Vocabulary.{◌≡◌, ◌∙◌, List, [], ◌∷◌, ◌++◌, length, sym, ap, arith, append-nil, append_assoc}

pub next_pushed : {X : Type 0} (xs rest next after all : List X) (x y : X) → xs ++ rest ≡ all → rest ≡ x ∷ next → y ≡ x → after ≡ xs ++ y ∷ []
    → after ++ next ≡ all
next_pushed xs rest next after all x y whole is same pushed =
    ap (λ l. l ++ next) pushed ∙ append_assoc xs (y ∷ []) next ∙ ap (λ z. xs ++ z ∷ next) same ∙ ap (λ l. xs ++ l) (sym is) ∙ whole

pub all_pushed : {X : Type 0} (xs rest all : List X) → xs ++ rest ≡ all → length rest ≡ 0 → xs ≡ all
all_pushed xs [] all whole none = sym (append-nil xs) ∙ whole
all_pushed xs (x ∷ rest) all whole none = absurd (omega (arith, none))
