-- A text has one head and one list of lines.
use Rattle.save_codec.proofs.Vocabulary.{◌≡◌, ◌++◌, ◌∷◌, ◌<◌, ◌≤◌, ◌+◌, ◌^◌, [], pos, ℕ, List, Option, Some, None, codes, decimal, length, take, slice_index, refl, sym, ap, ◌∙◌, arith, append_assoc}
use Rattle.save_codec.proofs.Vocabulary.{length-append, AllByRecursion, take_at, spelled, IsNoDigit, IsValue, OneTokenAtPlace, PrintedIsToken, Value, Num, one_value, cancel_front as cancel, IsLine}
use Rattle.save_codec.proofs.Vocabulary.{IsSmallNumber, IsSmallTime, head_text, last_text, line_text, lines_text, sized, spaced, values_text, LinesFollow, OneText, EndsValues, Line, Clock, Last}
use Rattle.save_codec.proofs.Vocabulary.{Position, Row, Due, End}
use Rattle.save_codec.proofs.ByteFronts.{decimal_is_no_minus}
use Rattle.save_codec.proofs.LineTexts.{due_split, row_split}
use Rattle.save_codec.proofs.ValueLists.{ends_value, newline_ends, values_no_digit, no_space}

one_number : PrintedIsToken → OneTokenAtPlace → (m n : ℕ) (a b : List ℕ) → IsSmallNumber m → IsSmallNumber n → IsNoDigit a → IsNoDigit b → spaced m ++ a ≡ spaced n ++ b → (m ≡ n) × (a ≡ b)
one_number printed one m n a b small also ends too e =
    let h = one_value printed one (Num (pos m)) (Num (pos n)) a b small also ends too (cancel (32 ∷ []) (decimal m ++ a) (decimal n ++ b) e) in
    (cc h.0, h.1)

one_last : PrintedIsToken → OneTokenAtPlace → (m n : Option ℕ) (a b : List ℕ) → IsSmallTime m → IsSmallTime n → IsNoDigit a → IsNoDigit b → last_text m ++ a ≡ last_text n ++ b → (m ≡ n) × (a ≡ b)
one_last printed one None None a b small also ends too e = (refl, cancel (codes " -") a b e)
one_last printed one None (Some n) a b small also ends too e =
    absurd (decimal_is_no_minus n b (decimal n ++ b) also refl (ap (λ l. slice_index l 1) (sym e)))
one_last printed one (Some m) None a b small also ends too e =
    absurd (decimal_is_no_minus m a (decimal m ++ a) small refl (ap (λ l. slice_index l 1) e))
one_last printed one (Some m) (Some n) a b small also ends too e =
    let h = one_number printed one m n a b small also ends too e in
    (ap Some h.0, h.1)

one_values : PrintedIsToken → OneTokenAtPlace → (vs ws : List Value) (a b : List ℕ) → AllByRecursion IsValue vs → AllByRecursion IsValue ws → EndsValues a → EndsValues b
    → values_text vs ++ a ≡ values_text ws ++ b → (vs ≡ ws) × (a ≡ b)
one_values printed one [] [] a b are also ends too e = (refl, e)
one_values printed one [] (w ∷ ws) a b are also ends too e = absurd (no_space a _ ends e)
one_values printed one (v ∷ vs) [] a b are also ends too e = absurd (no_space b _ too (sym e))
one_values printed one (v ∷ vs) (w ∷ ws) a b are also ends too e =
    let split : spelled v ++ (values_text vs ++ a) ≡ spelled w ++ (values_text ws ++ b) =
    cancel (32 ∷ []) (spelled v ++ (values_text vs ++ a)) (spelled w ++ (values_text ws ++ b))
    (sym (append_assoc (32 ∷ spelled v) (values_text vs) a) ∙ e ∙ append_assoc (32 ∷ spelled w) (values_text ws) b) in
    let first = one_value printed one v w (values_text vs ++ a) (values_text ws ++ b) are.0 also.0 (ends_value v vs a ends) (ends_value w ws b too) split in
    let rest = one_values printed one vs ws a b are.1 also.1 ends too first.1 in
    (λ i. first.0 i ∷ rest.0 i, rest.1)

-- the first bytes of lines of two kinds differ
first : Line → ℕ
first (Clock time) = 99
first (Last last) = 108
first (Position position) = 112
first (Row window time values) = 114
first (Due rule node origin low high values) = 100
first End = 101

first_is : (line : Line) (rest : List ℕ) → slice_index (line_text line ++ rest) 0 ≡ first line
unfolding first
first_is (Clock time) rest = refl
first_is (Last last) rest = refl
first_is (Position position) rest = refl
first_is (Row window time values) rest = refl
first_is (Due rule node origin low high values) rest = refl
first_is End rest = refl

-- at one place one line stands
one_of_kind : PrintedIsToken → OneTokenAtPlace → (l m : Line) (a b : List ℕ) → IsLine l → IsLine m → first l ≡ first m → line_text l ++ a ≡ line_text m ++ b → (l ≡ m) × (a ≡ b)
unfolding first
one_of_kind printed one (Clock s) (Clock t) a b is also same e =
    let h = one_number printed one s t (10 ∷ a) (10 ∷ b) is also (λ low high. omega arith) (λ low high. omega arith)
    (cancel (codes "clock") (spaced s ++ 10 ∷ a) (spaced t ++ 10 ∷ b) (sym (append_assoc (codes "clock" ++ spaced s) (codes "\n") a) ∙ e ∙ append_assoc (codes "clock" ++ spaced t) (codes "\n") b)) in
    (ap Clock h.0, cancel (10 ∷ []) a b h.1)
one_of_kind printed one (Last s) (Last t) a b is also same e =
    let h = one_last printed one s t (10 ∷ a) (10 ∷ b) is also (λ low high. omega arith) (λ low high. omega arith)
    (cancel (codes "last") (last_text s ++ 10 ∷ a) (last_text t ++ 10 ∷ b) (sym (append_assoc (codes "last" ++ last_text s) (codes "\n") a) ∙ e ∙ append_assoc
    (codes "last" ++ last_text t) (codes "\n") b)) in
    (ap Last h.0, cancel (10 ∷ []) a b h.1)
one_of_kind printed one (Position s) (Position t) a b is also same e =
    let h = one_number printed one s t (10 ∷ a) (10 ∷ b) is also (λ low high. omega arith) (λ low high. omega arith)
    (cancel (codes "position") (spaced s ++ 10 ∷ a) (spaced t ++ 10 ∷ b) (sym (append_assoc (codes "position" ++ spaced s) (codes "\n") a) ∙ e ∙ append_assoc
    (codes "position" ++ spaced t) (codes "\n") b)) in
    (ap Position h.0, cancel (10 ∷ []) a b h.1)
one_of_kind printed one (Row w s vs) (Row x t ws) a b is also same e =
    let left = values_text vs ++ (10 ∷ a) in
    let right = values_text ws ++ (10 ∷ b) in
    let window = one_number printed one w x (spaced s ++ left) (spaced t ++ right) is.0 also.0 (λ low high. omega arith) (λ low high. omega arith)
    (cancel (codes "row") (spaced w ++ (spaced s ++ left)) (spaced x ++ (spaced t ++ right)) (sym (row_split w s vs a) ∙ e ∙ row_split x t ws b)) in
    let time = one_number printed one s t left right is.1 also.1 (values_no_digit vs (10 ∷ a) (newline_ends a)) (values_no_digit ws (10 ∷ b) (newline_ends b)) window.1 in
    let values = one_values printed one vs ws (10 ∷ a) (10 ∷ b) is.2 also.2 (newline_ends a) (newline_ends b) time.1 in
    (λ i. Row (window.0 i) (time.0 i) (values.0 i), cancel (10 ∷ []) a b values.1)
one_of_kind printed one (Due r n o p q vs) (Due r' n' o' p' q' ws) a b is also same e =
    let left = values_text vs ++ (10 ∷ a) in
    let right = values_text ws ++ (10 ∷ b) in
    let rule = one_number printed one r r' (spaced n ++ (spaced o ++ (spaced p ++ (spaced q ++ left)))) (spaced n' ++ (spaced o' ++ (spaced p' ++ (spaced q' ++ right)))) is.0 also.0
    (λ low high. omega arith) (λ low high. omega arith)
    (cancel (codes "due") (spaced r ++ (spaced n ++ (spaced o ++ (spaced p ++ (spaced q ++ left))))) (spaced r' ++ (spaced n' ++ (spaced o' ++ (spaced p' ++ (spaced q' ++ right)))))
    (sym (due_split r n o p q vs a) ∙ e ∙ due_split r' n' o' p' q' ws b)) in
    let node = one_number printed one n n' (spaced o ++ (spaced p ++ (spaced q ++ left))) (spaced o' ++ (spaced p' ++ (spaced q' ++ right))) is.1 also.1 (λ low high. omega arith)
    (λ low high. omega arith) rule.1 in
    let origin = one_number printed one o o' (spaced p ++ (spaced q ++ left)) (spaced p' ++ (spaced q' ++ right)) is.2 also.2 (λ low high. omega arith) (λ low high. omega arith) node.1 in
    let from = one_number printed one p p' (spaced q ++ left) (spaced q' ++ right) is.3 also.3 (λ low high. omega arith) (λ low high. omega arith) origin.1 in
    let to = one_number printed one q q' left right is.4 also.4 (values_no_digit vs (10 ∷ a) (newline_ends a)) (values_no_digit ws (10 ∷ b) (newline_ends b)) from.1 in
    let values = one_values printed one vs ws (10 ∷ a) (10 ∷ b) is.5 also.5 (newline_ends a) (newline_ends b) to.1 in
    (λ i. Due (rule.0 i) (node.0 i) (origin.0 i) (from.0 i) (to.0 i) (values.0 i), cancel (10 ∷ []) a b values.1)
one_of_kind printed one End End a b is also same e = (refl, cancel (codes "end\n") a b e)
one_of_kind printed one l m a b is also same e = absurd (omega (arith, same))

pub one_line : PrintedIsToken → OneTokenAtPlace → (l m : Line) (a b : List ℕ) → IsLine l → IsLine m → line_text l ++ a ≡ line_text m ++ b → (l ≡ m) × (a ≡ b)
one_line printed one l m a b is also e =
    one_of_kind printed one l m a b is also (sym (first_is l a) ∙ ap (λ t. slice_index t 0) e ∙ first_is m b) e

pub none_before : (line : Line) (rest : List ℕ) → [] ≡ line_text line ++ rest → ⊥
none_before line rest e = by line (ap length e)
  where
    by : (line : Line) → 0 ≡ length (line_text line ++ rest) → ⊥
    by (Clock time) e = omega arith
    by (Last last) e = omega arith
    by (Position position) e = omega arith
    by (Row window time values) e = omega arith
    by (Due rule node origin low high values) e = omega arith
    by End e = omega arith

-- texts that are the same have the same lines
pub one_lines : PrintedIsToken → OneTokenAtPlace → (ls ms : List Line) → AllByRecursion IsLine ls → AllByRecursion IsLine ms → lines_text ls ≡ lines_text ms → ls ≡ ms
one_lines printed one [] [] are also e = refl
one_lines printed one [] (m ∷ ms) are also e = absurd (none_before m (lines_text ms) e)
one_lines printed one (l ∷ ls) [] are also e = absurd (none_before l (lines_text ls) (sym e))
one_lines printed one (l ∷ ls) (m ∷ ms) are also e =
    let h = one_line printed one l m (lines_text ls) (lines_text ms) are.0 also.0 e in
    let rest = one_lines printed one ls ms are.1 also.1 h.1 in
    λ i. h.0 i ∷ rest i

-- bytes after their number are told apart from what follows them
one_sized : PrintedIsToken → OneTokenAtPlace → (word c d a b : List ℕ) → IsSmallNumber (length c) → IsSmallNumber (length d) → sized word c ++ a ≡ sized word d ++ b → (c ≡ d) × (a ≡ b)
one_sized printed one word c d a b small also e =
    let number = one_number printed one (length c) (length d) (10 ∷ (c ++ 10 ∷ a)) (10 ∷ (d ++ 10 ∷ b)) small also (λ low high. omega arith) (λ low high. omega arith)
    (cancel word (spaced (length c) ++ 10 ∷ (c ++ 10 ∷ a)) (spaced (length d) ++ 10 ∷ (d ++ 10 ∷ b)) (sym (split c a) ∙ e ∙ split d b)) in
    let behind : c ++ 10 ∷ a ≡ d ++ 10 ∷ b = cancel (10 ∷ []) (c ++ 10 ∷ a) (d ++ 10 ∷ b) number.1 in
    let same : c ≡ d = sym (take_at c (10 ∷ a) (length c) refl) ∙ ap (take (length c)) behind ∙ ap (λ n. take n (d ++ 10 ∷ b)) number.0 ∙ take_at d (10 ∷ b) (length d) refl in
    (same, cancel (10 ∷ []) a b (cancel d (10 ∷ a) (10 ∷ b) (ap (λ l. l ++ 10 ∷ a) (sym same) ∙ behind)))
  where
    split : (c a : List ℕ) → sized word c ++ a ≡ word ++ (spaced (length c) ++ 10 ∷ (c ++ 10 ∷ a))
    split c a =
        append_assoc word (spaced (length c) ++ 10 ∷ (c ++ 10 ∷ [])) a
        ∙ ap (λ l. word ++ l) (append_assoc (spaced (length c)) (10 ∷ (c ++ 10 ∷ [])) a
        ∙ ap (λ l. spaced (length c) ++ 10 ∷ l) (append_assoc c (10 ∷ []) a))

-- texts that are the same have the same head
pub one_head : PrintedIsToken → OneTokenAtPlace → (s p s' p' a b : List ℕ) → IsSmallNumber (length s) → IsSmallNumber (length p) → IsSmallNumber (length s') → IsSmallNumber (length p')
    → head_text s p ++ a ≡ head_text s' p' ++ b → (s ≡ s') × (p ≡ p') × (a ≡ b)
one_head printed one s p s' p' a b small few small' few' e =
    let first = one_sized printed one (codes "signature") s s' (sized (codes "policy") p ++ a) (sized (codes "policy") p' ++ b) small small'
    (cancel (codes "enfstate 1\n") _ _ (sym (ap (λ l. codes "enfstate 1\n" ++ l) (append_assoc (sized (codes "signature") s) (sized (codes "policy") p) a)) ∙ e ∙ ap
    (λ l. codes "enfstate 1\n" ++ l) (append_assoc (sized (codes "signature") s') (sized (codes "policy") p') b))) in
    let second = one_sized printed one (codes "policy") p p' a b few few' first.1 in
    (first.0, second.0, second.1)

follow_lines : (before : Option Line) (lines : List Line) → LinesFollow before lines → AllByRecursion IsLine lines
follow_lines before [] form = tt
follow_lines before (line ∷ lines) form = (form.1, follow_lines (Some line) lines form.2)

pub head_small : (s p text bytes : List ℕ) → length bytes < 2 ^ 63 → bytes ≡ head_text s p ++ text → IsSmallNumber (length s) × IsSmallNumber (length p)
head_small s p text bytes small e =
    let all = ap length e ∙ length-append (head_text s p) text in
    let whole : length (head_text s p) ≡ 11 + length (sized (codes "signature") s ++ sized (codes "policy") p) = length-append (codes "enfstate 1\n")
    (sized (codes "signature") s ++ sized (codes "policy") p) in
    let two = length-append (sized (codes "signature") s) (sized (codes "policy") p) in
    let left = sized_long (codes "signature") s in
    let right = sized_long (codes "policy") p in
    (omega (arith, all, whole, two, left, right, small), omega (arith, all, whole, two, left, right, small))
  where
    sized_long : (word c : List ℕ) → length c ≤ length (sized word c)
    sized_long word c =
        omega (arith, length-append word (spaced (length c) ++ 10 ∷ (c ++ 10 ∷ [])), length-append (spaced (length c)) (10 ∷ (c ++ 10 ∷ [])), length-append c (10 ∷ []))

pub one_text : PrintedIsToken → OneTokenAtPlace → OneText
one_text printed one bytes s p s' p' lines others small t u =
    let a = head_small s p (lines_text lines) bytes small t.text in
    let b = head_small s' p' (lines_text others) bytes small u.text in
    let head = one_head printed one s p s' p' (lines_text lines) (lines_text others) a.0 a.1 b.0 b.1 (sym t.text ∙ u.text) in
    (head.0, head.1, one_lines printed one lines others (follow_lines None lines t.form.0) (follow_lines None others u.form.0) head.2)
