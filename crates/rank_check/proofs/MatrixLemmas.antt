-- Edges that are put into a table.
use Rattle.rank_check.proofs.Vocabulary.{◌≡◌, ◌⊎◌, ℕ, ◌+◌, ◌*◌, ◌<◌, Bool, true, false, IsTrue, List, [], ◌∷◌, ◌++◌, Contains, length, take, get_or, set, refl, sym, ap, subst, inl, inr, ⊎_elim, ◌∙◌}
use Rattle.rank_check.proofs.Vocabulary.{cases_eq, get_or-set_other, take_more, Contains-append_left, Contains-push, Contains-push_cases, get_or-set_at, mul-add-lt, same_from_place, NameId, EdgeTable}
use Rattle.rank_check.proofs.Vocabulary.{HasEdge, AddsEdges}

-- one edge, by its mark
pub marked : (width : ℕ) (marks : List Bool) (from to : NameId) → length marks ≡ width * width → from.0 < width → to.0 < width
    → AddsEdges (λ a b. (from ≡ a) × (to ≡ b)) (record { width = width; marks = marks }) (record { width = width; marks = set marks (from.0 * width + to.0) true })
marked width marks from to sized low high =
    let place : ℕ = from.0 * width + to.0 in
    let inside : place < length marks = rw sized (mul-add-lt from.0 width to.0 width low high) in
    record {
      width = refl;
      kept = λ a b joins. (
        joins.0,
        joins.1,
        ⊎_elim (λ (same : a.0 * width + b.0 ≡ place). subst IsTrue (sym (get_or-set_at marks place (a.0 * width + b.0) true false same inside))
            refl) (λ (other : a.0 * width + b.0 ≡ place → ⊥). subst IsTrue (sym (get_or-set_other marks place (a.0 * width + b.0) true false other)) joins.2)
            (cases_eq (a.0 * width + b.0) place),
      );
      added = λ a b below also is.
          let same : a.0 * width + b.0 ≡ place = ap (λ (n : NameId). n.0 * width + b.0) (sym is.0) ∙ ap (λ (n : NameId). from.0 * width + n.0) (sym is.1) in
          (below, also, subst IsTrue (sym (get_or-set_at marks place (a.0 * width + b.0) true false same inside)) refl);
      only = λ a b joins. ⊎_elim
          (λ (same : a.0 * width + b.0 ≡ place).
          let both = same_from_place a.0 b.0 from.0 to.0 width joins.1 high same in
          inr (ap (λ (n : ℕ). record { 0 = n }) (sym both.0), ap (λ (n : ℕ). record { 0 = n }) (sym both.1)))
          (λ (other : a.0 * width + b.0 ≡ place → ⊥). inl (joins.0, joins.1, subst IsTrue (get_or-set_other marks place (a.0 * width + b.0) true false other) joins.2))
          (cases_eq (a.0 * width + b.0) place);
    }

-- none at all, where the relation has none between the names
pub nothing : (E : NameId → NameId → Type 0) (table : EdgeTable) → ((a b : NameId) → a.0 < table.width → b.0 < table.width → E a b → ⊥) → AddsEdges E table table
nothing E table none = record {
  width = refl;
  kept = λ a b joins. joins;
  added = λ a b below also is. absurd (none a b below also is);
  only = λ a b joins. inl joins;
}

-- the edges of one relation were added, and then those of another
pub both : (E F : NameId → NameId → Type 0) (first second third : EdgeTable) → AddsEdges E first second → AddsEdges F second third → AddsEdges (λ a b. E a b ⊎ F a b) first third
both E F first second third one two = record {
  width = two.width ∙ one.width;
  kept = λ a b joins. two.kept a b (one.kept a b joins);
  added = λ a b below also is. ⊎_elim
      (λ e. two.kept a b (one.added a b below also e))
      (λ f. two.added a b (subst (λ (w : ℕ). a.0 < w) (sym one.width) below) (subst (λ (w : ℕ). b.0 < w) (sym one.width) also) f) is;
  only = λ a b joins. ⊎_elim
      (λ before. ⊎_elim (λ (j : HasEdge first a b). inl j) (λ (e : E a b). inr (inl e)) (one.only a b before))
      (λ f. inr (inr f)) (two.only a b joins);
}

-- relations that are the same between all names
pub same : (E F : NameId → NameId → Type 0) (before after : EdgeTable) → ((a b : NameId) → E a b → F a b) → ((a b : NameId) → F a b → E a b) → AddsEdges E before after → AddsEdges F before after
same E F before after there back adds = record {
  width = adds.width;
  kept = adds.kept;
  added = λ a b below also is. adds.added a b below also (back a b is);
  only = λ a b joins. ⊎_elim (λ (j : HasEdge before a b). inl j) (λ (e : E a b). inr (there a b e)) (adds.only a b joins);
}

-- an edge from each of the names
abbrev pub Each : List NameId → NameId → NameId → NameId → Type 0
Each met to a b = Contains met a × (to ≡ b)

pub one_more : (met : List NameId) (i : ℕ) (none to : NameId) (first second third : EdgeTable) → i < length met → AddsEdges (Each (take i met) to) first second
    → AddsEdges (λ a b. (get_or met i none ≡ a) × (to ≡ b)) second third → AddsEdges (Each (take (i + 1) met) to) first third
one_more met i none to first second third inside before one =
    let from : NameId = get_or met i none in
    let more : take (i + 1) met ≡ take i met ++ from ∷ [] = take_more met i none inside in
    same (λ a b. Each (take i met) to a b ⊎ ((from ≡ a) × (to ≡ b))) (Each (take (i + 1) met) to) first third
    (λ a b e. subst (λ (l : List NameId). Each l to a b) (sym more)
    (⊎_elim (λ (old : Each (take i met) to a b). (Contains-append_left (take i met) (from ∷ []) a old.0, old.1))
    (λ (new : (from ≡ a) × (to ≡ b)). (subst (λ (n : NameId). Contains (take i met ++ from ∷ []) n) new.0 (Contains-push (take i met) from), new.1)) e))
    (λ a b e. let there : Each (take i met ++ from ∷ []) to a b = subst (λ (l : List NameId). Each l to a b) more e in
    ⊎_elim (λ (old : Contains (take i met) a). inl (old, there.1)) (λ (new : from ≡ a). inr (new, there.1)) (Contains-push_cases (take i met) from a there.0))
    (both (Each (take i met) to) (λ a b. (from ≡ a) × (to ≡ b)) first second third before one)
