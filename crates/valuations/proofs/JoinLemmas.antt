-- One row more in a join, and in the rows without a partner.
use Rattle.valuations.proofs.Vocabulary.{◌≡◌, ℕ, ◌+◌, ◌<◌, true, false, ⊎_elim, List, [], ◌∷◌, ◌++◌, length, map, take, get_or, Contains, ◌↔◌, refl, sym, ap, subst, ◌∙◌, arith, Bor, eqb-true}
use Rattle.valuations.proofs.Vocabulary.{eqb-false, take_more, Contains-append_left, Contains-append_right, Value, only_item as only, row_key, row_part, shown_rows, AreJoinedRows, AreSingleRows}
use Rattle.valuations.proofs.Vocabulary.{none_in_nil, here, Contains-append, Contains-map, Contains-from_map}
use Rattle.std.proofs.Common.{◌==◌}

-- the partners of a row
abbrev pub ArePartners : List ℕ → List ℕ → List (List Value) → List Value → List (List Value) → Type 0
ArePartners left right others row partners = (other : List Value) → Contains partners other ↔ (Contains others other × (row_key other right ≡ row_key row left))

more_rows : (rows : List (List Value)) (i : ℕ) (row : List Value) → i < length rows → row ≡ get_or rows i row → take (i + 1) rows ≡ take i rows ++ row ∷ []
more_rows rows i row within is = take_more rows i row within ∙ ap (λ r. take i rows ++ r ∷ []) (sym is)

joined_one_more : (left right rest : List ℕ) (rows others out : List (List Value)) (row : List Value) (partners : List (List Value)) → AreJoinedRows left right rest rows others out
    → ArePartners left right others row partners → AreJoinedRows left right rest (rows ++ row ∷ []) others (out ++ map (λ other. row ++ row_part other rest) partners)
joined_one_more left right rest rows others out row partners joined are = record {
  sound = λ r there. ⊎_elim
      (λ old. let was = joined.sound r old in (was.0, was.1, Contains-append_left rows (row ∷ []) was.0 was.2, was.3, was.4, was.5))
      (λ new. let got = Contains-from_map (λ other. row ++ row_part other rest) partners r new in
      (row, got.0, Contains-append_right rows (row ∷ []) row (here row []), ((are got.0).0 got.1).0, ((are got.0).0 got.1).1, sym got.2))
      (Contains-append out (map (λ other. row ++ row_part other rest) partners) r there);
  complete = λ a b in_a in_b same. ⊎_elim
      (λ old. Contains-append_left out (map (λ other. row ++ row_part other rest) partners) (a ++ row_part b rest) (joined.complete a b old in_b same))
      (λ last. let is : row ≡ a = only row a last in
      subst (λ r. Contains (out ++ map (λ other. row ++ row_part other rest) partners) (r ++ row_part b rest)) is
      (Contains-append_right out (map (λ other. row ++ row_part other rest) partners) (row ++ row_part b rest)
      (Contains-map (λ other. row ++ row_part other rest) partners b ((are b).1 (in_b, same ∙ ap (λ r. row_key r left) (sym is))))))
      (Contains-append rows (row ∷ []) a in_a);
}

pub joined_more : (left right rest : List ℕ) (rows others out after : List (List Value)) (i : ℕ) (row : List Value) (partners : List (List Value))
    → AreJoinedRows left right rest (take i rows) others out → i < length rows → row ≡ get_or rows i row → ArePartners left right others row partners → after
    ≡ out ++ map (λ other. row ++ row_part other rest) partners → AreJoinedRows left right rest (take (i + 1) rows) others after
joined_more left right rest rows others out after i row partners joined within is are grown =
    subst (λ l. AreJoinedRows left right rest l others after) (sym (more_rows rows i row within is))
    (subst (AreJoinedRows left right rest (take i rows ++ row ∷ []) others) (sym grown) (joined_one_more left right rest (take i rows) others out row partners joined are))

pub single_pushed : (left right : List ℕ) (rows others out after : List (List Value)) (i : ℕ) (row : List Value) (partners : List (Bor (List Value)))
    → AreSingleRows left right (take i rows) others out → i < length rows → row ≡ get_or rows i row → ArePartners left right others row (shown_rows partners)
    → (length partners == 0) ≡ true → after ≡ out ++ row ∷ [] → AreSingleRows left right (take (i + 1) rows) others after
single_pushed left right rows others out after i row partners single within is are none grown =
    let lonely : (other : List Value) → Contains others other → row_key other right ≡ row_key row left
    → ⊥ = λ other there same. nothing partners other (eqb-true _ _ none) ((are other).1 (there, same)) in
    subst (λ l. AreSingleRows left right l others after) (sym (more_rows rows i row within is)) (subst (AreSingleRows left right (take i rows ++ row ∷ []) others) (sym grown) (record {
      sound = λ r there. ⊎_elim
          (λ old. let was = single.sound r old in (Contains-append_left (take i rows) (row ∷ []) r was.0, was.1))
          (λ last. subst (λ x. Contains (take i rows ++ row ∷ []) x × ((other : List Value) → Contains others other → row_key other right ≡ row_key x left → ⊥))
          (only row r last) (Contains-append_right (take i rows) (row ∷ []) row (here row []), lonely))
          (Contains-append out (row ∷ []) r there);
      complete = λ r there apart. ⊎_elim
          (λ old. Contains-append_left out (row ∷ []) r (single.complete r old apart))
          (λ last. subst (Contains (out ++ row ∷ [])) (only row r last) (Contains-append_right out (row ∷ []) row (here row [])))
          (Contains-append (take i rows) (row ∷ []) r there);
    }))
  where
    nothing : (ps : List (Bor (List Value))) (other : List Value) → length ps ≡ 0 → Contains (shown_rows ps) other → ⊥
    nothing [] other e there = none_in_nil other there
    nothing (p ∷ ps) other e there = absurd (omega arith)

pub single_passed : (left right : List ℕ) (rows others out after : List (List Value)) (i : ℕ) (row : List Value) (partners : List (Bor (List Value)))
    → AreSingleRows left right (take i rows) others out → i < length rows → row ≡ get_or rows i row → ArePartners left right others row (shown_rows partners)
    → (length partners == 0) ≡ false → after ≡ out → AreSingleRows left right (take (i + 1) rows) others after
single_passed left right rows others out after i row partners single within is are some kept =
    subst (λ l. AreSingleRows left right l others after) (sym (more_rows rows i row within is)) (subst (AreSingleRows left right (take i rows ++ row ∷ []) others) (sym kept) (record {
      sound = λ r there. let was = single.sound r there in (Contains-append_left (take i rows) (row ∷ []) r was.0, was.1);
      complete = λ r there apart. ⊎_elim
          (λ old. single.complete r old apart)
          (λ last.
          let paired = something partners (eqb-false _ _ some) in
          let both = (are paired.0).0 paired.1 in
          absurd (apart paired.0 both.0 (both.1 ∙ ap (λ x. row_key x left) (only row r last))))
          (Contains-append (take i rows) (row ∷ []) r there);
    }))
  where
    something : (ps : List (Bor (List Value))) → (length ps ≡ 0 → ⊥) → (other : List Value) × Contains (shown_rows ps) other
    something [] h = absurd (h refl)
    something (p ∷ ps) h = (p.now, here p.now (shown_rows ps))
