-- The columns that two lists share.
use Rattle.valuations.proofs.Vocabulary.{Contains-from_filter, Contains-filter, VarId, ap, refl, inl, inr, sym, ◌∙◌, false≢true, Decides-eqb, Decides-like, Decides-by_or, Decides-contains, Decides}
use Rattle.valuations.proofs.Vocabulary.{list_any, ◌==◌, is_column, columns_shared, columns_unshared}
use Rattle.std.specs.Prelude.{◌≡◌, List, Contains, Bool, true, false, ◌⊎◌, not}

-- ---- variables

pub same_variable : (x y : VarId) → x.0 ≡ y.0 → x ≡ y
same_variable x y e = λ i. record { 0 = e i }

is_variable : (x y : VarId) → Decides (y.0 == x.0) (y ≡ x)
is_variable x y = Decides-like (y.0 == x.0) (same_variable y x) (λ e. ap (λ z. z.0) e) (Decides-eqb y.0 x.0)

pub is_among-Decides : (columns : List VarId) (x : VarId) → Decides (is_column columns x) (Contains columns x)
is_among-Decides columns x =
    Decides-contains columns x _ (Decides-by_or (λ column. column.0 == x.0) (λ column. column ≡ x) (list_any
    (λ column. column.0 == x.0)) (is_variable x) refl (λ _ _. refl) columns)

-- a variable is among the columns or not
pub among_or_not : (columns : List VarId) (x : VarId) → Contains columns x ⊎ (Contains columns x → ⊥)
among_or_not columns x = by (is_column columns x) (is_among-Decides columns x)
  where
    by : (b : Bool) → Decides b (Contains columns x) → Contains columns x ⊎ (Contains columns x → ⊥)
    by true d = inl (d.0 refl)
    by false d = inr (λ there. false≢true (d.1 there))

not_among : (columns : List VarId) (x : VarId) → (Contains columns x → ⊥) → not (is_column columns x) ≡ true
not_among columns x absent = by (is_column columns x) (is_among-Decides columns x)
  where
    by : (b : Bool) → Decides b (Contains columns x) → not b ≡ true
    by true d = absurd (absent (d.0 refl))
    by false d = refl

among_not : (columns : List VarId) (x : VarId) → not (is_column columns x) ≡ true → Contains columns x → ⊥
among_not columns x absent there = false≢true (ap not (sym ((is_among-Decides columns x).1 there)) ∙ absent)

pub shared_in : (columns others : List VarId) (x : VarId) → Contains (columns_shared columns others) x
    → Contains columns x × Contains others x
shared_in columns others x there =
    let parts = Contains-from_filter (is_column columns) others x there in
    ((is_among-Decides columns x).0 parts.1, parts.0)

pub in_shared : (columns others : List VarId) (x : VarId) → Contains columns x → Contains others x
    → Contains (columns_shared columns others) x
in_shared columns others x left right =
    Contains-filter (is_column columns) others x right ((is_among-Decides columns x).1 left)

pub not_shared_in : (columns others : List VarId) (x : VarId) → Contains (columns_unshared columns others) x
    → (Contains columns x → ⊥) × Contains others x
not_shared_in columns others x there =
    let parts = Contains-from_filter (λ y. not (is_column columns y)) others x there in
    (among_not columns x parts.1, parts.0)

pub in_not_shared : (columns others : List VarId) (x : VarId) → (Contains columns x → ⊥) → Contains others x
    → Contains (columns_unshared columns others) x
in_not_shared columns others x left right =
    Contains-filter (λ y. not (is_column columns y)) others x right (not_among columns x left)
