-- The sorts that the reader keeps are those of the definition, and so are the refusals.
use Rattle.formula_reader.proofs.Vocabulary.{◌≡◌, ◌≢◌, ℕ, suc, zero, ◌+◌, ◌<◌, Bool, true, false, cond, eqb, List, [], ◌∷◌, ◌++◌, length, get_or, Option, None, Some, Result, Ok, Err, refl, sym, ap}
use Rattle.formula_reader.proofs.Vocabulary.{subst, ◌∙◌, ⊎_elim, eqb_tells, get_or-set_same, get_or-set_other, length-set, length-append, option_or, Term, Var, Const, VarId, NameEntry, Sort}
use Rattle.formula_reader.proofs.Vocabulary.{VariableSorts, known_in, fill, with_sort, sorts_behind, pass, passed_on, Wanted, NoSortWanted, ThisSort, SortOf, Point, EventName, Binder, Use}
use Rattle.formula_reader.proofs.Vocabulary.{sort_of_term, wanted_sort, for_variable, sort_given, known_after, point_refusal, first_point_refusal, sort_clash, PolicyRefusal}

option_or-none : {A : Type 0} (a : Option A) → option_or a None ≡ a
option_or-none None = refl
option_or-none (Some x) = refl

option_or-assoc : {A : Type 0} (a b c : Option A) → option_or a (option_or b c) ≡ option_or (option_or a b) c
option_or-assoc None b c = refl
option_or-assoc (Some x) b c = refl

-- a term whose variable is among the first `count`
abbrev pub InScope : (count : ℕ) → Option Term → Type 0
InScope count None = Unit {0}
InScope count (Some (Var x)) = x.0 < count
InScope count (Some (Const value)) = Unit {0}

abbrev pub WantedInScope : (count : ℕ) → Wanted → Type 0
WantedInScope count NoSortWanted = Unit {0}
WantedInScope count (ThisSort sort) = Unit {0}
WantedInScope count (SortOf term) = InScope count term

-- each point uses variables that were bound before it, of which there are `count` in front of the first
abbrev pub Fits : (count : ℕ) → List Point → Type 0
Fits count [] = Unit {0}
Fits count (EventName place name terms ∷ points) = Fits count points
Fits count (Binder place taken ∷ points) = Fits (count + 1) points
Fits count (Use place term wanted ∷ points) = InScope count term × WantedInScope count wanted × Fits count points

-- the sorts are those known after the points before
pub record Agrees (before : List Point) (sorts : VariableSorts) : Type 0 where
  pub each : (x : VarId) → known_after before x ≡ known_in sorts x

same_sort : (k l : VarId → Option Sort) → ((x : VarId) → k x ≡ l x) → (term : Option Term) → sort_of_term k term ≡ sort_of_term l term
same_sort k l e None = refl
same_sort k l e (Some (Var x)) = e x
same_sort k l e (Some (Const value)) = refl

same_wanted : (k l : VarId → Option Sort) → ((x : VarId) → k x ≡ l x) → (wanted : Wanted) → wanted_sort k wanted ≡ wanted_sort l wanted
same_wanted k l e NoSortWanted = refl
same_wanted k l e (ThisSort sort) = refl
same_wanted k l e (SortOf term) = same_sort k l e term

pub same_refusal : (entries : List NameEntry) (k l : VarId → Option Sort) → ((x : VarId) → k x ≡ l x) → (point : Point)
    → point_refusal entries k point ≡ point_refusal entries l point
same_refusal entries k l e (EventName place name terms) = refl
same_refusal entries k l e (Binder place taken) = refl
same_refusal entries k l e (Use place None wanted) = refl
same_refusal entries k l e (Use place (Some term) wanted) =
    ap (λ (s : Option Sort). sort_clash place s (wanted_sort k wanted)) (same_sort k l e (Some term))
    ∙ ap (λ (s : Option Sort). sort_clash place (sort_of_term l (Some term)) s) (same_wanted k l e wanted)

pub same_given : (k l : VarId → Option Sort) → ((x : VarId) → k x ≡ l x) → (x : VarId) (point : Point) → sort_given k x point ≡ sort_given l x point
same_given k l e x (EventName place name terms) = refl
same_given k l e x (Binder place taken) = refl
same_given k l e x (Use place term NoSortWanted) = refl
same_given k l e x (Use place term (ThisSort sort)) = refl
same_given k l e x (Use place term (SortOf other)) =
    ap (λ (s : Option Sort). option_or (for_variable x term s) (for_variable x other (sort_of_term k term))) (same_sort k l e other)
    ∙ ap (λ (s : Option Sort). option_or (for_variable x term (sort_of_term l other)) (for_variable x other s)) (same_sort k l e term)

no_sort : (b : Bool) → let none : Option Sort = None in cond b none none ≡ none
no_sort true = refl
no_sort false = refl

-- a variable with or without a sort gets one
gets_variable : (sorts : VariableSorts) (y x : ℕ) (s : Sort) (k : Option Sort) → y < length sorts → k ≡ get_or sorts y None
    → option_or (get_or sorts x None) (cond (eqb y x) (Some s) None) ≡ get_or (fill sorts y k s) x None
gets_variable sorts y x s None lt e =
    ⊎_elim
    (λ h. rw (h.0, ← h.1, ← e) (sym (get_or-set_same sorts y (Some s) None lt)))
    (λ h. let n : x ≢ y = (λ q. h.1 (sym q)) in rw h.0 (option_or-none (get_or sorts x None) ∙ sym (get_or-set_other sorts y x (Some s) None n)))
    (eqb_tells y x)
gets_variable sorts y x s (Some q) lt e =
    ⊎_elim
    (λ h. rw (h.0, ← h.1, ← e) refl)
    (λ h. rw h.0 (option_or-none (get_or sorts x None)))
    (eqb_tells y x)

gets : (sorts : VariableSorts) (term : Option Term) (s : Option Sort) (x : VarId) → InScope (length sorts) term
    → option_or (known_in sorts x) (for_variable x term s) ≡ known_in (with_sort sorts term s) x
gets sorts None None x h = option_or-none (known_in sorts x)
gets sorts None (Some s) x h = option_or-none (known_in sorts x)
gets sorts (Some (Const value)) None x h = option_or-none (known_in sorts x)
gets sorts (Some (Const value)) (Some s) x h = option_or-none (known_in sorts x)
gets sorts (Some (Var y)) None x h = rw no_sort (option_or-none (known_in sorts x))
gets sorts (Some (Var y)) (Some s) x h = gets_variable sorts y.0 x.0 s (known_in sorts y) h refl

fill-length : (sorts : VariableSorts) (y : ℕ) (k : Option Sort) (s : Sort) → length (fill sorts y k s) ≡ length sorts
fill-length sorts y None s = length-set sorts y (Some s)
fill-length sorts y (Some q) s = refl

with_sort-length : (sorts : VariableSorts) (term : Option Term) (s : Option Sort) → length (with_sort sorts term s) ≡ length sorts
with_sort-length sorts None None = refl
with_sort-length sorts None (Some s) = refl
with_sort-length sorts (Some (Const value)) None = refl
with_sort-length sorts (Some (Const value)) (Some s) = refl
with_sort-length sorts (Some (Var y)) None = refl
with_sort-length sorts (Some (Var y)) (Some s) = fill-length sorts y.0 (known_in sorts y) s

-- a variable that is bound has no sort yet
bound_unknown : (sorts : VariableSorts) (x : ℕ) → get_or sorts x None ≡ get_or (sorts ++ None ∷ []) x None
bound_unknown [] zero = refl
bound_unknown [] (suc x) = refl
bound_unknown (s ∷ sorts) zero = refl
bound_unknown (s ∷ sorts) (suc x) = bound_unknown sorts x

-- a point that is passed
passes_point : (before : List Point) (sorts : VariableSorts) (point : Point) (rest : List Point) → Agrees before sorts → Fits (length sorts) (point ∷ rest)
    → Agrees (point ∷ before) (sorts_behind sorts point)
passes_point before sorts (EventName place name terms) rest a h = record { each = λ x. option_or-none (known_after before x) ∙ a.each x }
passes_point before sorts (Binder place taken) rest a h = record {
  each = λ x. option_or-none (known_after before x) ∙ a.each x ∙ bound_unknown sorts x.0;
}
passes_point before sorts (Use place term NoSortWanted) rest a h = record { each = λ x. option_or-none (known_after before x) ∙ a.each x }
passes_point before sorts (Use place term (ThisSort sort)) rest a h = record {
  each = λ x.
      ap (λ (k : Option Sort). option_or k (for_variable x term (Some sort))) (a.each x) ∙ gets sorts term (Some sort) x h.0;
}
passes_point before sorts (Use place term (SortOf other)) rest a h = record {
  each = λ x.
      ap (λ (k : Option Sort). option_or k (sort_given (known_after before) x (Use place term (SortOf other)))) (a.each x)
      ∙ ap (λ (g : Option Sort). option_or (known_in sorts x) g) (same_given (known_after before) (known_in sorts) a.each x (Use place term (SortOf other)))
      ∙ option_or-assoc (known_in sorts x) (for_variable x term (sort_of_term (known_in sorts) other)) (for_variable x other (sort_of_term (known_in sorts) term))
      ∙ ap (λ (k : Option Sort). option_or k (for_variable x other (sort_of_term (known_in sorts) term))) (gets sorts term (sort_of_term (known_in sorts) other) x h.0)
      ∙ gets (with_sort sorts term (sort_of_term (known_in sorts) other)) other (sort_of_term (known_in sorts) term) x
      (subst (λ (n : ℕ). InScope n other) (sym (with_sort-length sorts term (sort_of_term (known_in sorts) other))) h.1);
}

fits_rest : (sorts : VariableSorts) (point : Point) (rest : List Point) → Fits (length sorts) (point ∷ rest) → Fits (length (sorts_behind sorts point)) rest
fits_rest sorts (EventName place name terms) rest h = h
fits_rest sorts (Binder place taken) rest h = subst (λ (n : ℕ). Fits n rest) (sym (length-append sorts (None ∷ []))) h
fits_rest sorts (Use place term NoSortWanted) rest h = h.2
fits_rest sorts (Use place term (ThisSort sort)) rest h = subst (λ (n : ℕ). Fits n rest) (sym (with_sort-length sorts term (Some sort))) h.2
fits_rest sorts (Use place term (SortOf other)) rest h =
    subst (λ (n : ℕ). Fits n rest)
    (sym (with_sort-length (with_sort sorts term (sort_of_term (known_in sorts) other)) other (sort_of_term (known_in sorts) term)
    ∙ with_sort-length sorts term (sort_of_term (known_in sorts) other))) h.2

-- what comes of passing, as a refusal or none
abbrev pub refused_by : Result VariableSorts PolicyRefusal → Option PolicyRefusal
refused_by (Ok sorts) = None
refused_by (Err refusal) = Some refusal

or_refused : (first : Option PolicyRefusal) (rest : Option PolicyRefusal) (passed : Result VariableSorts PolicyRefusal)
    → (first ≡ None → rest ≡ refused_by passed) → option_or first rest ≡ refused_by (passed_on first passed)
or_refused None rest passed f = f refl
or_refused (Some refusal) rest passed f = refl

-- the first refusal is that at which passing stops
pub first_is : (entries : List NameEntry) (before : List Point) (sorts : VariableSorts) (points : List Point) → Agrees before sorts → Fits (length sorts) points
    → first_point_refusal entries before points ≡ refused_by (pass entries sorts points)
first_is entries before sorts [] a h = refl
first_is entries before sorts (point ∷ rest) a h =
    ap (λ (r : Option PolicyRefusal). option_or r (first_point_refusal entries (point ∷ before) rest)) (same_refusal entries (known_after before) (known_in sorts) a.each point)
    ∙ or_refused (point_refusal entries (known_in sorts) point) _ (pass entries (sorts_behind sorts point) rest)
    (λ e. first_is entries (point ∷ before) (sorts_behind sorts point) rest (passes_point before sorts point rest a h) (fits_rest sorts point rest h))
