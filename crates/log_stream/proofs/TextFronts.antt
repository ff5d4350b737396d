-- Texts that are appended part by part, and fronts of them that were appended before memory ran out.
use Rattle.log_stream.proofs.Vocabulary.{◌≡◌, ℕ, zero, suc, List, [], ◌∷◌, ◌++◌, ◌-◌, ◌≤◌, length, take, drop, get_or, refl, sym, ap, ◌∙◌, arith, append_assoc, None, slice_get, append-nil, take_all}
use Rattle.log_stream.proofs.Vocabulary.{flat_map, AppendsPart, spelled, Value, part_none, entry_names as names_of, NameEntry, spelled_row}

-- a front of the middle of a text, after its beginning, is a front of the text
pub part_inside : (whole start text end before middle after : List ℕ) → whole ≡ start ++ (text ++ end) → middle ≡ before ++ start
    → AppendsPart text middle after → AppendsPart whole before after
part_inside whole start text end before middle after is begun (part, rest, split, appended) = (
  start ++ part,
  rest ++ end,
  is ∙ ap (λ t. start ++ (t ++ end)) split ∙ ap (λ t. start ++ t) (append_assoc part rest end) ∙ sym (append_assoc start part (rest ++ end)),
  appended ∙ ap (λ t. t ++ part) begun ∙ append_assoc before start part,
)

-- a number past the declarations has no name
pub name_past : (entries : List NameEntry) (number : ℕ) → None ≡ slice_get entries number → get_or (names_of entries) number [] ≡ []
name_past [] number h = refl
name_past (entry ∷ entries) zero h = cc
name_past (entry ∷ entries) (suc number) h = name_past entries number h

-- a front of the first value is a front of the row
pub part_of_first : (row : List Value) (first : Value) (before after : List ℕ) → 1 ≤ length row → first ≡ get_or row 0 first
    → AppendsPart (spelled first) before after → AppendsPart (spelled_row row) before after
part_of_first [] first before after some is part = absurd (omega arith)
part_of_first (value ∷ row) first before after some is part =
    part_inside (spelled_row (value ∷ row)) [] (spelled first) (flat_map (λ next. 44 ∷ spelled next) row) before before after
    (ap (λ v. spelled v ++ flat_map (λ next. 44 ∷ spelled next) row) (sym is)) (sym (append-nil before)) part

-- a front of the values after the first is one, after the first value, of the row
pub part_of_rest : (row : List Value) (first : Value) (before middle after : List ℕ) → 1 ≤ length row → first ≡ get_or row 0 first
    → middle ≡ before ++ spelled first → AppendsPart (flat_map (λ next. 44 ∷ spelled next) (take (length row - 1) (drop 1 row))) middle after
    → AppendsPart (spelled_row row) before after
part_of_rest [] first before middle after some is begun part = absurd (omega arith)
part_of_rest (value ∷ row) first before middle after some is begun part =
    part_inside (spelled_row (value ∷ row)) (spelled first) (flat_map (λ next. 44 ∷ spelled next) (take (length (value ∷ row) - 1) row)) [] before middle after
    (ap (λ v. spelled v ++ flat_map (λ next. 44 ∷ spelled next) row) (sym is)
    ∙ ap (λ r. spelled first ++ flat_map (λ next. 44 ∷ spelled next) r) (sym (take_all (length (value ∷ row) - 1) row (omega arith)))
    ∙ ap (λ t. spelled first ++ t) (sym (append-nil (flat_map (λ next. 44 ∷ spelled next) (take (length (value ∷ row) - 1) row)))))
    begun part

-- two appended parts, and three
pub appended_two : (old a b x y : List ℕ) → a ≡ old ++ x → b ≡ a ++ y → b ≡ old ++ (x ++ y)
appended_two old a b x y first second = second ∙ ap (λ t. t ++ y) first ∙ append_assoc old x y

pub appended_three : (old a b c x y z : List ℕ) → a ≡ old ++ x → b ≡ a ++ y → c ≡ b ++ z → c ≡ old ++ ((x ++ y) ++ z)
appended_three old a b c x y z first second third = appended_two old b c (x ++ y) z (appended_two old a b x y first second) third

-- memory ran out before the parenthesis of an event after a space
pub part_at_paren : (name row old a b after : List ℕ) → a ≡ old ++ 32 ∷ [] → b ≡ a ++ name → after ≡ b
    → AppendsPart (32 ∷ (name ++ 40 ∷ row ++ 41 ∷ [])) old after
part_at_paren name row old a b after first second same =
    part_inside (32 ∷ (name ++ 40 ∷ row ++ 41 ∷ [])) (32 ∷ [] ++ name) [] (40 ∷ row ++ 41 ∷ []) old b after
    (simp append_assoc) (appended_two old a b (32 ∷ []) name first second) (part_none [] b after same)

-- memory ran out within its arguments
pub part_in_row : (name row old a b c after : List ℕ) → a ≡ old ++ 32 ∷ [] → b ≡ a ++ name → c ≡ b ++ 40 ∷ [] → AppendsPart row c after
    → AppendsPart (32 ∷ (name ++ 40 ∷ row ++ 41 ∷ [])) old after
part_in_row name row old a b c after first second third part =
    part_inside (32 ∷ (name ++ 40 ∷ row ++ 41 ∷ [])) ((32 ∷ [] ++ name) ++ 40 ∷ []) row (41 ∷ []) old c after
    (simp append_assoc) (appended_three old a b c (32 ∷ []) name (40 ∷ []) first second third) part

-- memory ran out within the events of a line
pub part_in_line : (mark : ℕ) (time events old a b after : List ℕ) → a ≡ old ++ mark ∷ [] → b ≡ a ++ time → AppendsPart events b after
    → AppendsPart ((mark ∷ (time ++ events ++ 59 ∷ [])) ++ 10 ∷ []) old after
part_in_line mark time events old a b after first second part =
    part_inside ((mark ∷ (time ++ events ++ 59 ∷ [])) ++ 10 ∷ []) (mark ∷ [] ++ time) events (59 ∷ 10 ∷ []) old b after
    (simp append_assoc) (appended_two old a b (mark ∷ []) time first second) part
