-- What is left of a list of values of which some were read.
use Rattle.save_codec.proofs.Vocabulary.{◌≡◌, ◌++◌, ◌∷◌, [], ℕ, List, sym, ap, subst, ◌∙◌, arith, append_assoc, append-nil, flat_map-append, AllByRecursion, spelled, EndsBefore, IsNoDigit, IsValue}
use Rattle.save_codec.proofs.Vocabulary.{Value, Num, Text, cancel_front as cancel, values_text, EndsValues}

-- where values stood at the front of the text, these were read of them, and this is left
abbrev pub AreLeft : (text : List ℕ) → (read : List Value) → (left : List ℕ) → Type 0
AreLeft text read left = (values : List Value) (rest : List ℕ) → AllByRecursion IsValue values → EndsValues rest
    → text ≡ values_text values ++ rest
    → (others : List Value) × (values ≡ read ++ others) × AllByRecursion IsValue others × (left ≡ values_text others ++ rest)

pub ends_no_digit : (rest : List ℕ) → EndsValues rest → IsNoDigit rest
ends_no_digit [] ends = tt
ends_no_digit (byte ∷ rest) ends = ends.1

pub ends_value : (value : Value) (others : List Value) (rest : List ℕ) → EndsValues rest → EndsBefore value (values_text others ++ rest)
ends_value (Num number) [] rest ends = ends_no_digit rest ends
ends_value (Num number) (next ∷ others) rest ends = λ low high. omega arith
ends_value (Text text) others rest ends = tt

-- values stand after digits
pub values_no_digit : (values : List Value) (rest : List ℕ) → EndsValues rest → IsNoDigit (values_text values ++ rest)
values_no_digit [] rest ends = ends_no_digit rest ends
values_no_digit (value ∷ values) rest ends = λ low high. omega arith

-- the next of the values
pub record HasNext (behind : List ℕ) (read values : List Value) (rest : List ℕ) : Type 0 where
  pub value : Value
  pub others : List Value
  pub are : values ≡ read ++ value ∷ others
  pub fits : IsValue value
  pub more : AllByRecursion IsValue others
  pub ends : EndsBefore value (values_text others ++ rest)
  pub there : behind ≡ spelled value ++ (values_text others ++ rest)

pub no_space : (rest behind : List ℕ) → EndsValues rest → rest ≡ 32 ∷ behind → ⊥
no_space [] behind ends e = cc
no_space (byte ∷ rest) behind ends e = ends.0 (cc e)

pub next_of : (read values others : List Value) (rest left behind : List ℕ) → values ≡ read ++ others → AllByRecursion IsValue others → EndsValues rest → left
    ≡ values_text others ++ rest → left ≡ 32 ∷ behind → HasNext behind read values rest
next_of read values [] rest left behind are fit ends e space = absurd (no_space rest behind ends (sym e ∙ space))
next_of read values (value ∷ others) rest left behind are fit ends e space = record {
  value = value;
  others = others;
  are = are;
  fits = fit.0;
  more = fit.1;
  ends = ends_value value others rest ends;
  there = cancel (32 ∷ []) behind (spelled value ++ (values_text others ++ rest)) (sym space ∙ e ∙ append_assoc (32 ∷ spelled value) (values_text others) rest);
}

pub next_left : (text left behind : List ℕ) (read : List Value) → AreLeft text read left → left ≡ 32 ∷ behind
    → (values : List Value) (rest : List ℕ) → AllByRecursion IsValue values → EndsValues rest → text ≡ values_text values ++ rest → HasNext behind read values rest
next_left text left behind read are space values rest fit ends e =
    let h = are values rest fit ends e in
    next_of read values h.0 rest left behind h.1 h.2 ends h.3 space

-- one more was read
pub one_more : (text left behind after : List ℕ) (read row : List Value) (value : Value) → AreLeft text read left → left ≡ 32 ∷ behind → row ≡ read ++ value ∷ []
    → ((next : Value) (rest : List ℕ) → IsValue next → EndsBefore next rest → behind ≡ spelled next ++ rest → (value ≡ next) × (after ≡ rest))
    → AreLeft text row after
one_more text left behind after read row value are space put again = λ values rest fit ends e.
    let n = next_left text left behind read are space values rest fit ends e in
    let a = again n.value (values_text n.others ++ rest) n.fits n.ends n.there in
    (n.others, n.are ∙ ap (λ v. read ++ v ∷ n.others) (sym a.0) ∙ sym (append_assoc read (value ∷ []) n.others) ∙ ap (λ r. r ++ n.others) (sym put), n.more, a.1)

pub values_on : (text left behind after : List ℕ) (read row : List Value) (value : Value) → text ≡ values_text read ++ left → left ≡ 32 ∷ behind → behind
    ≡ spelled value ++ after → row ≡ read ++ value ∷ [] → text ≡ values_text row ++ after
values_on text left behind after read row value is space there put =
    is ∙ ap (λ l. values_text read ++ l) (space ∙ ap (λ l. 32 ∷ l) there)
    ∙ sym (append_assoc (values_text read) (32 ∷ spelled value) after)
    ∙ ap (λ l. l ++ after) (ap (λ l. values_text read ++ l) (sym (append-nil (32 ∷ spelled value)))
    ∙ sym (flat_map-append (λ (v : Value). 32 ∷ spelled v) read (value ∷ [])) ∙ ap values_text (sym put))

-- none is left
pub none_left : (text left : List ℕ) (read : List Value) → AreLeft text read left → ((behind : List ℕ) → left ≡ 32 ∷ behind → ⊥)
    → (values : List Value) (rest : List ℕ) → AllByRecursion IsValue values → EndsValues rest → text ≡ values_text values ++ rest → (read ≡ values) × (left ≡ rest)
none_left text left read are none values rest fit ends e =
    let h = are values rest fit ends e in
    by h.0 h.1 h.3
  where
    by : (others : List Value) → values ≡ read ++ others → left ≡ values_text others ++ rest → (read ≡ values) × (left ≡ rest)
    by [] is left_is = (sym (is ∙ append-nil read), left_is)
    by (value ∷ others) is left_is = absurd (none (spelled value ++ (values_text others ++ rest)) (left_is ∙ append_assoc (32 ∷ spelled value) (values_text others) rest))

pub put_value : (read row : List Value) (value : Value) → AllByRecursion IsValue read → IsValue value → row ≡ read ++ value ∷ [] → AllByRecursion IsValue row
put_value read row value are fits put = subst (AllByRecursion IsValue) (sym put) (by read are)
  where
    by : (read : List Value) → AllByRecursion IsValue read → AllByRecursion IsValue (read ++ value ∷ [])
    by [] are = (fits, tt)
    by (first ∷ read) are = (are.0, by read are.1)

-- a line feed ends values
pub newline_ends : (rest : List ℕ) → EndsValues (10 ∷ rest)
newline_ends rest = ((λ e. absurd (omega (arith, e))), (λ low high. omega arith))
