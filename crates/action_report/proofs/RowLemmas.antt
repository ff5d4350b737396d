-- Arguments and names, as they stand in a line.
use Rattle.action_report.proofs.Vocabulary.{Result, Ok, Err, IfOk, ◌≡◌, ℕ, ◌&&◌, Bool, true, false, List, [], ◌∷◌, ◌++◌, Some, IsTrue, All, slice_get, slice_index_or, refl, sym, ap, subst, ◌∙◌, arith}
use Rattle.action_report.proofs.Vocabulary.{append_assoc, flat_map, option_map, get_or_from_slice_get, slice_get-map, slice_get_within, is_name, is_word, spelled, EndsBefore, IsNoDigit, Event, NameId}
use Rattle.action_report.proofs.Vocabulary.{Value, Num, Text, IsNameEntry, IsSignature, entry_names, NameEntry, Sort, spelled_event, spelled_row, FitColumns, IsDeclared, EndsWord, IsColumnValue}
use Rattle.action_report.proofs.Vocabulary.{marked_values}

abbrev pub commas : List Value → List ℕ
commas values = flat_map (λ next. 44 ∷ spelled next) values

pub marked_next : (values : List Value) → marked_values (44 ∷ []) values ≡ commas values
marked_next [] = refl
marked_next (value ∷ values) = refl

pub row_marked : (values : List Value) → marked_values [] values ≡ spelled_row values
row_marked [] = refl
row_marked (value ∷ values) = refl

-- what stands after a value ends it
pub ends_value : (value : Value) (values : List Value) (rest : List ℕ) → IsNoDigit rest → EndsBefore value (commas values ++ rest)
ends_value (Num number) [] rest ends = ends
ends_value (Num number) (next ∷ values) rest ends = λ low high. omega arith
ends_value (Text text) values rest ends = tt

-- a first argument, and the others
pub record HasFirst (sort : Sort) (others : List Sort) (args : List Value) : Type 0 where
  pub value : Value
  pub values : List Value
  pub args_are : args ≡ value ∷ values
  pub fit : IsColumnValue sort value
  pub more : FitColumns others values

pub first_fits : (sorts others : List Sort) (sort : Sort) (args : List Value) → sorts ≡ sort ∷ others → FitColumns sorts args → HasFirst sort others args
first_fits sorts others sort args is are = by args (subst (λ l. FitColumns l args) is are)
  where
    by : (args : List Value) → FitColumns (sort ∷ others) args → HasFirst sort others args
    by [] are = absurd are
    by (value ∷ values) are = record { value = value; values = values; args_are = refl; fit = (are.0, are.1); more = are.2 }

-- the text of the first, and what is after it
pub first_text : (mark rest bytes : List ℕ) (args values : List Value) (value : Value) → args ≡ value ∷ values → bytes ≡ marked_values mark args ++ rest → bytes
    ≡ mark ++ (spelled value ++ (commas values ++ rest))
first_text mark rest bytes args values value are is =
    is ∙ ap (λ l. marked_values mark l ++ rest) are ∙ append_assoc mark (spelled value ++ commas values) rest
    ∙ ap (λ l. mark ++ l) (append_assoc (spelled value) (commas values) rest)

pub others_text : (rest left : List ℕ) (values : List Value) → left ≡ commas values ++ rest → left ≡ marked_values (44 ∷ []) values ++ rest
others_text rest left values is = is ∙ ap (λ l. l ++ rest) (sym (marked_next values))

-- the row without its parentheses
pub inner_text : (rest bytes : List ℕ) (args : List Value) → bytes ≡ 40 ∷ spelled_row args ++ 41 ∷ rest → bytes ≡ 40 ∷ (marked_values [] args ++ 41 ∷ rest)
inner_text rest bytes args is = is ∙ ap (λ l. 40 ∷ (l ++ 41 ∷ rest)) (sym (row_marked args))

pub paren_ends : (rest : List ℕ) → IsNoDigit (41 ∷ rest)
paren_ends rest = λ low high. omega arith

-- ---- names

pub name_is : (entries : List NameEntry) (number : ℕ) (entry : NameEntry) → slice_get entries number ≡ Some entry → slice_index_or (entry_names entries) number [] ≡ entry.text
name_is entries number entry found =
    get_or_from_slice_get (entry_names entries) number entry.text [] (slice_get-map (λ (e : NameEntry). e.text) entries number ∙ ap (option_map (λ (e : NameEntry). e.text)) found)

first_true : (a b : Bool) → (a && b) ≡ true → a ≡ true
first_true true b e = refl
first_true false b e = cc

pub name_is_word : (name : List ℕ) → IsTrue (is_name name) → IsTrue (is_word name)
name_is_word name is = first_true (is_word name) _ is

entry_of : (entries : List NameEntry) (number : ℕ) (entry : NameEntry) → All IsNameEntry entries → slice_get entries number ≡ Some entry → IsNameEntry entry
entry_of entries number entry each found =
    subst IsNameEntry (get_or_from_slice_get entries number entry entry found) (each number entry (slice_get_within entries number entry found))

-- the name of an event that is declared: a word, with its number
pub record IsNameOf (entries : List NameEntry) (event : Event) (entry : NameEntry) : Type 0 where
  pub text : slice_index_or (entry_names entries) event.name.0 [] ≡ entry.text
  pub word : IsTrue (is_word entry.text)
  pub found : option_map (λ e. e.text) (slice_get entries event.name.0) ≡ Some entry.text

pub name_of : (entries : List NameEntry) (event : Event) → IsSignature entries → (d : IsDeclared entries event) → IsNameOf entries event d.entry
name_of entries event signature d = record {
  text = name_is entries event.name.0 d.entry d.found;
  word = name_is_word d.entry.text (entry_of entries event.name.0 d.entry signature.each d.found).named;
  found = ap (option_map (λ e. e.text)) d.found;
}

-- the text of an event, and what is after it
pub event_text : (entries : List NameEntry) (event : Event) (entry : NameEntry) (rest bytes : List ℕ) → IsNameOf entries event entry → bytes ≡ spelled_event (entry_names entries) event ++ rest
    → bytes ≡ entry.text ++ (40 ∷ spelled_row event.args ++ 41 ∷ rest)
event_text entries event entry rest bytes is e =
    e ∙ ap (λ n. (n ++ 40 ∷ spelled_row event.args ++ 41 ∷ []) ++ rest) is.text ∙ simp append_assoc

pub paren_ends_word : (rest : List ℕ) → EndsWord (40 ∷ rest)
paren_ends_word rest = refl

pub same_event : (event : Event) (name : NameId) (args : List Value) → name ≡ event.name → args ≡ event.args → record { name = name; args = args } ≡ event
same_event event name args n a = λ j. record { name = n j; args = a j }

-- a value, and those after it
pub rows_join : {E : Type 0} (result : Result Bool E) (before middle after values args : List Value) (value : Value) (left rest : List ℕ) → middle ≡ before ++ value ∷ [] → args ≡ value ∷ values
    → IfOk result (λ all. (all ≡ true) × (after ≡ middle ++ values) × (left ≡ rest)) → IfOk result (λ all. (all ≡ true) × (after ≡ before ++ args) × (left ≡ rest))
rows_join (Err e) before middle after values args value left rest pushed are h = tt
rows_join (Ok all) before middle after values args value left rest pushed are h =
    (h.0, h.1 ∙ ap (λ l. l ++ values) pushed ∙ append_assoc before (value ∷ []) values ∙ ap (λ l. before ++ l) (sym are), h.2)
