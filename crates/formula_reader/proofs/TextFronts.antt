-- Fronts of a text that were appended before memory ran out.
use Rattle.formula_reader.proofs.Vocabulary.{◌≡◌, ℕ, List, [], ◌∷◌, ◌++◌, take, drop, length, sym, ap, ◌∙◌, subst, arith, get_or, ◌≤◌, ◌-◌, flat_map-append, take_all, take-append-drop, flat_map}
use Rattle.formula_reader.proofs.Vocabulary.{AppendsPart, part_first, part_behind, separated_text}

-- the first of texts with a separator between them
pub separated-first : {A : Type 0} (text : A → List ℕ) (separator : List ℕ) (items : List A) (d : A) → 1 ≤ length items
    → separated_text text separator items
    ≡ text (get_or items 0 d) ++ flat_map (λ item. separator ++ text item) (take (length items - 1) (drop 1 items))
separated-first text separator [] d h = absurd (omega arith)
separated-first text separator (x ∷ items) d h =
    let whole : take (length (x ∷ items) - 1) items ≡ items = take_all (length (x ∷ items) - 1) items (omega arith) in
    ap (λ ys. text x ++ flat_map (λ item. separator ++ text item) ys) (sym whole)

-- the texts of the first items are a front of the texts of all
pub part_of_items : {A : Type 0} (f : A → List ℕ) (items : List A) (i : ℕ) (before after : List ℕ) → after ≡ before ++ flat_map f (take i items)
    → AppendsPart (flat_map f items) before after
part_of_items f items i before after is =
    (flat_map f (take i items), flat_map f (drop i items), sym (sym (flat_map-append f (take i items) (drop i items)) ∙ ap (flat_map f) (take-append-drop i items)), is)

-- a front of the text of the next item, after the texts of the first ones
pub part_of_next : {A : Type 0} (f : A → List ℕ) (items : List A) (i : ℕ) (x : A) (rest : List A) (before middle after : List ℕ)
    → drop i items ≡ x ∷ rest → middle ≡ before ++ flat_map f (take i items) → AppendsPart (f x) middle after
    → AppendsPart (flat_map f items) before after
part_of_next f items i x rest before middle after e is h =
    let whole : flat_map f (take i items) ++ (f x ++ flat_map f rest) ≡ flat_map f items =
    ap (λ ys. flat_map f (take i items) ++ flat_map f ys) (sym e)
    ∙ sym (flat_map-append f (take i items) (drop i items)) ∙ ap (flat_map f) (take-append-drop i items) in
    subst (λ (t : List ℕ). AppendsPart t before after) whole
    (part_behind (flat_map f (take i items)) (f x ++ flat_map f rest) before middle after is (part_first (f x) (flat_map f rest) middle after h))

-- a front of the first text
pub first_part : {A : Type 0} (text : A → List ℕ) (separator : List ℕ) (items : List A) (first d : A) (before after : List ℕ)
    → 1 ≤ length items → first ≡ get_or items 0 d → AppendsPart (text first) before after → AppendsPart (separated_text text separator items) before after
first_part text separator items first d before after some is h =
    subst (λ (t : List ℕ). AppendsPart t before after) (sym (separated-first text separator items d some))
    (part_first (text (get_or items 0 d)) (flat_map (λ item. separator ++ text item) (take (length items - 1) (drop 1 items))) before after
    (subst (λ x. AppendsPart (text x) before after) is h))

-- the texts of the first and of some that follow
pub separator_part : {A : Type 0} (text : A → List ℕ) (separator : List ℕ) (items : List A) (first d : A) (i : ℕ) (before behind middle after : List ℕ)
    → 1 ≤ length items → first ≡ get_or items 0 d → behind ≡ before ++ text first
    → middle ≡ behind ++ flat_map (λ item. separator ++ text item) (take i (take (length items - 1) (drop 1 items))) → after ≡ middle
    → AppendsPart (separated_text text separator items) before after
separator_part text separator items first d i before behind middle after some is b m e =
    subst (λ (t : List ℕ). AppendsPart t before after) (sym (separated-first text separator items d some))
    (part_behind (text (get_or items 0 d)) (flat_map (λ item. separator ++ text item) (take (length items - 1) (drop 1 items))) before behind after
    (b ∙ ap (λ x. before ++ text x) is)
    (part_of_items (λ item. separator ++ text item) (take (length items - 1) (drop 1 items)) i behind after (e ∙ m)))

-- a part of the separated text: whole items, then a separator and a front of the next item's text
pub item_part : {A : Type 0} (text : A → List ℕ) (separator : List ℕ) (items : List A) (first d : A) (i : ℕ) (x : A) (rest : List A)
    (before behind middle separated_by after : List ℕ)
    → 1 ≤ length items → first ≡ get_or items 0 d → behind ≡ before ++ text first
    → middle ≡ behind ++ flat_map (λ item. separator ++ text item) (take i (take (length items - 1) (drop 1 items)))
    → separated_by ≡ middle ++ separator → drop i (take (length items - 1) (drop 1 items)) ≡ x ∷ rest
    → AppendsPart (text x) separated_by after
    → AppendsPart (separated_text text separator items) before after
item_part text separator items first d i x rest before behind middle separated_by after some is b m s next h =
    subst (λ (t : List ℕ). AppendsPart t before after) (sym (separated-first text separator items d some))
    (part_behind (text (get_or items 0 d)) (flat_map (λ item. separator ++ text item) (take (length items - 1) (drop 1 items))) before behind after
    (b ∙ ap (λ x. before ++ text x) is)
    (part_of_next (λ item. separator ++ text item) (take (length items - 1) (drop 1 items)) i x rest behind middle after next m
    (part_behind separator (text x) middle separated_by after s h)))
