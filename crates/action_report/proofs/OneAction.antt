-- A line is that of one action alone.
use Rattle.action_report.proofs.Vocabulary.{◌≡◌, ℕ, ◌<◌, ◌^◌, List, [], ◌∷◌, ◌++◌, Some, IsTrue, slice_get, slice_index, codes, decimal, refl, sym, ap, subst, ◌∙◌, arith, append_assoc, position}
use Rattle.action_report.proofs.Vocabulary.{take_while, is_ascii_digit, digits_value, decimal_is_IsNumeral, is_word, is_word_byte, spelled, IsNoDigit, bindings, OneTokenAtPlace, PrintedIsToken, Event}
use Rattle.action_report.proofs.Vocabulary.{VarId, Value, cancel_front as cancel, one_value, IsSignature, entry_names, number_only, NameEntry, Sort, spelled_event, spelled_row, FitColumns, IsDeclared}
use Rattle.action_report.proofs.Vocabulary.{variable_text, Rule, Plan, scope_at, Action, LiteralKind, Cause, Suppress, action_line, bindings_text, cause_text, kind_text, rule_name}
use Rattle.action_report.proofs.Vocabulary.{rule_variable_names, when_text, labelled, EndsWord, marked_values, OneActionOfLine, StandIn}
use Rattle.action_report.proofs.BindLemmas.{AreValues, Binding, binding_front, ends_binding, keys}
use Rattle.action_report.proofs.ByteFronts.{number_front, word_front}
use Rattle.action_report.proofs.RowLemmas.{commas, ends_value, event_text, first_text, inner_text, name_of, others_text, paren_ends, paren_ends_word}
use Rattle.action_report.proofs.NumberLemmas.{cause_split, named, no_digit_behind, rule_at, when_split}
use Rattle.std.specs.FinMap as finite

one_word : (v w a b : List ℕ) → IsTrue (is_word v) → IsTrue (is_word w) → EndsWord a → EndsWord b → v ++ a ≡ w ++ b → (v ≡ w) × (a ≡ b)
one_word v w a b is also ends too e =
    let same : v ≡ w = sym (word_front v a is ends) ∙ ap (take_while is_word_byte) e ∙ word_front w b also too in
    (same, cancel w a b (ap (λ l. l ++ a) (sym same) ∙ e))

one_number : (m n : ℕ) (a b : List ℕ) → m < 2 ^ 64 → n < 2 ^ 64 → IsNoDigit a → IsNoDigit b → decimal m ++ a ≡ decimal n ++ b → (m ≡ n) × (a ≡ b)
one_number m n a b small also ends too e =
    let same : decimal m ≡ decimal n = sym (number_front m a small ends) ∙ ap (take_while is_ascii_digit) e ∙ number_front n b also too in
    (sym (decimal_is_IsNumeral m small).1 ∙ ap (digits_value 10) same ∙ (decimal_is_IsNumeral n also).1, cancel (decimal n) a b (ap (λ l. l ++ a) (sym same) ∙ e))

one_labelled : (word : List ℕ) (m n : ℕ) (a b : List ℕ) → m < 2 ^ 64 → n < 2 ^ 64 → IsNoDigit a → IsNoDigit b → labelled word m ++ a ≡ labelled word n ++ b → (m ≡ n) × (a ≡ b)
one_labelled word m n a b small also ends too e =
    one_number m n a b small also ends too (cancel word (decimal m ++ a) (decimal n ++ b) (sym (append_assoc word (decimal m) a) ∙ e ∙ append_assoc word (decimal n) b))

one_row : PrintedIsToken → OneTokenAtPlace → (mark : List ℕ) (sorts : List Sort) (args others : List Value) (a b : List ℕ) → FitColumns sorts args → FitColumns sorts others → IsNoDigit a → IsNoDigit b
    → marked_values mark args ++ a ≡ marked_values mark others ++ b → (args ≡ others) × (a ≡ b)
one_row printed one mark [] [] [] a b fit also ends too e = (refl, e)
one_row printed one mark [] [] (w ∷ ws) a b fit also ends too e = absurd also
one_row printed one mark [] (v ∷ vs) others a b fit also ends too e = absurd fit
one_row printed one mark (s ∷ sorts) [] others a b fit also ends too e = absurd fit
one_row printed one mark (s ∷ sorts) (v ∷ vs) [] a b fit also ends too e = absurd also
one_row printed one mark (s ∷ sorts) (v ∷ vs) (w ∷ ws) a b fit also ends too e =
    let behind = cancel mark (spelled v ++ (commas vs ++ a)) (spelled w ++ (commas ws ++ b)) (sym (first_text mark a _ (v ∷ vs) vs v refl refl) ∙ e ∙ first_text mark b _ (w ∷ ws) ws w refl refl) in
    let value = one_value printed one v w (commas vs ++ a) (commas ws ++ b) fit.1 also.1 (ends_value v vs a ends) (ends_value w ws b too) behind in
    let rest = one_row printed one (44 ∷ []) sorts vs ws a b fit.2 also.2 ends too (sym (others_text a _ vs refl) ∙ value.1 ∙ others_text b _ ws refl) in
    (λ i. value.0 i ∷ rest.0 i, rest.1)

one_event : PrintedIsToken → OneTokenAtPlace → (entries : List NameEntry) (event other : Event) (a b : List ℕ) → IsSignature entries → IsDeclared entries event → IsDeclared entries other
    → spelled_event (entry_names entries) event ++ a ≡ spelled_event (entry_names entries) other ++ b → (event ≡ other) × (a ≡ b)
one_event printed one entries event other a b signature d k e =
    let n = name_of entries event signature d in
    let m = name_of entries other signature k in
    let word = one_word d.entry.text k.entry.text (40 ∷ spelled_row event.args ++ 41 ∷ a) (40 ∷ spelled_row other.args ++ 41 ∷ b) n.word m.word
    (paren_ends_word (spelled_row event.args ++ 41 ∷ a)) (paren_ends_word (spelled_row other.args ++ 41 ∷ b))
    (sym (event_text entries event d.entry a _ n refl) ∙ e ∙ event_text entries other k.entry b _ m refl) in
    let numbers : Some event.name.0 ≡ Some other.name.0 = sym (number_only entries d.entry.text event.name.0 signature.distinct n.found) ∙ number_only entries d.entry.text other.name.0
    signature.distinct (m.found ∙ ap Some (sym word.0)) in
    let number : event.name.0 ≡ other.name.0 = cc numbers in
    let both : Some d.entry ≡ Some k.entry = sym d.found ∙ ap (slice_get entries) number ∙ k.found in
    let entry : d.entry ≡ k.entry = cc both in
    let inner = cancel (40 ∷ []) (marked_values [] event.args ++ 41 ∷ a) (marked_values [] other.args ++ 41 ∷ b) (sym (inner_text a _ event.args refl) ∙ word.1 ∙ inner_text b _ other.args refl) in
    let row = one_row printed one [] k.entry.sorts event.args other.args (41 ∷ a) (41 ∷ b) (subst (λ x. FitColumns x.sorts event.args) entry d.fit) k.fit (paren_ends a) (paren_ends b) inner in
    (λ i. record { name = record { 0 = number i }; args = row.0 i }, cancel (41 ∷ []) a b row.1)

one_kind : (kind other : LiteralKind) (a b : List ℕ) → kind_text kind ++ (codes " " ++ a) ≡ kind_text other ++ (codes " " ++ b) → (kind ≡ other) × (a ≡ b)
one_kind Cause Cause a b e = (refl, cancel (codes "cause ") a b e)
one_kind Suppress Suppress a b e = (refl, cancel (codes "suppress ") a b e)
one_kind Cause Suppress a b e = let first : 99 ≡ 115 = ap (λ l. slice_index l 0) e in absurd (omega (arith, first))
one_kind Suppress Cause a b e = let first : 115 ≡ 99 = ap (λ l. slice_index l 0) e in absurd (omega (arith, first))

one_bindings : PrintedIsToken → OneTokenAtPlace → (vars : List (List ℕ)) (values others : List Binding) (a b : List ℕ) → keys values ≡ keys others → AreValues values
    → AreValues others → IsNoDigit a → IsNoDigit b
    → bindings_text vars values ++ a ≡ bindings_text vars others ++ b → (values ≡ others) × (a ≡ b)
one_bindings printed one vars [] [] a b same are also ends too e = (refl, e)
one_bindings printed one vars [] (w ∷ ws) a b same are also ends too e = absurd cc
one_bindings printed one vars (v ∷ vs) [] a b same are also ends too e = absurd cc
one_bindings printed one vars (v ∷ vs) (w ∷ ws) a b same are also ends too e =
    let first : v.0 ≡ w.0 = cc same in
    let others : keys vs ≡ keys ws = cc same in
    let name : variable_text vars v.0 ≡ variable_text vars w.0 = ap (variable_text vars) first in
    let left = codes "=" ++ (spelled v.1 ++ (bindings_text vars vs ++ a)) in
    let right = codes "=" ++ (spelled w.1 ++ (bindings_text vars ws ++ b)) in
    let whole = cancel (codes " ") (variable_text vars v.0 ++ left) (variable_text vars w.0 ++ right)
    (sym (binding_front vars (v ∷ vs) vs v.0 v.1 a _ refl refl) ∙ e ∙ binding_front vars (w ∷ ws) ws w.0 w.1 b _ refl refl) in
    let behind = cancel (codes "=") (spelled v.1 ++ (bindings_text vars vs ++ a)) (spelled w.1 ++ (bindings_text vars ws ++ b))
    (cancel (variable_text vars w.0) left right (ap (λ l. l ++ left) (sym name) ∙ whole)) in
    let value = one_value printed one v.1 w.1 (bindings_text vars vs ++ a) (bindings_text vars ws ++ b) are.0 also.0 (ends_binding vars v.1 vs a ends) (ends_binding vars w.1 ws b too) behind in
    let rest = one_bindings printed one vars vs ws a b others are.1 also.1 ends too value.1 in
    (λ i. (first i, value.0 i) ∷ rest.0 i, rest.1)

-- ---- the whole line

pub same_action : (a b : Action) → a.kind ≡ b.kind → a.event ≡ b.event → a.time ≡ b.time → a.position ≡ b.position → a.rule ≡ b.rule → a.node ≡ b.node → a.leaf
    ≡ b.leaf → a.origin ≡ b.origin → a.valuation ≡ b.valuation → a ≡ b
same_action a b kind event time position rule node leaf origin valuation = λ i. record {
  kind = kind i;
  event = event i;
  time = time i;
  position = position i;
  rule = rule i;
  node = node i;
  leaf = leaf i;
  origin = origin i;
  valuation = valuation i;
}

pub scope_same : (plans : List Plan) (rule node leaf more : ℕ) (scope other : List VarId) → StandIn plans rule node leaf scope → StandIn plans rule node more other → scope ≡ other
scope_same plans rule node leaf more scope other s o =
    let both : Some s.plan ≡ Some o.plan = sym s.planned ∙ o.planned in
    let plan : s.plan ≡ o.plan = cc both in
    let found : Some scope ≡ Some other = sym s.in_scope ∙ ap (λ p. scope_at node p) plan ∙ o.in_scope in
    cc found

-- a line by its parts, the rule being this one
abbrev told_text : List NameEntry → Rule → Action → List ℕ
told_text entries rule action =
    kind_text action.kind ++ (codes " " ++ (spelled_event (entry_names entries) action.event ++
    (when_text action ++ (cause_text rule.name action ++ (bindings_text rule.vars (bindings action.valuation) ++ codes "\n")))))

pub line_parts : (entries : List NameEntry) (rules : List Rule) (rule : Rule) (action : Action) → slice_get rules action.rule ≡ Some rule → action_line entries rules action
    ≡ told_text entries rule action
line_parts entries rules rule action found =
    ap (λ r. kind_text action.kind ++ (codes " " ++ (spelled_event (entry_names entries) action.event ++
    (when_text action ++ (cause_text (rule_name r) action ++ (bindings_text (rule_variable_names r) (bindings action.valuation) ++ codes "\n")))))) found

pub one_action : PrintedIsToken → OneTokenAtPlace → OneActionOfLine
one_action printed one entries rules plans line a b signature policy small also x y =
    let p = x.told in
    let q = y.told in
    let first = rule_at entries rules a.rule p.rule policy p.of_rule in
    let second = rule_at entries rules b.rule q.rule policy q.of_rule in
    let end_a = bindings_text p.rule.vars (bindings a.valuation) ++ codes "\n" in
    let end_b = bindings_text q.rule.vars (bindings b.valuation) ++ codes "\n" in
    let origin_a = labelled (codes " origin ") a.origin ++ end_a in
    let origin_b = labelled (codes " origin ") b.origin ++ end_b in
    let leaf_a = labelled (codes " leaf ") a.leaf ++ origin_a in
    let leaf_b = labelled (codes " leaf ") b.leaf ++ origin_b in
    let node_a = labelled (codes " node ") a.node ++ leaf_a in
    let node_b = labelled (codes " node ") b.node ++ leaf_b in
    let cause_a = cause_text p.rule.name a ++ end_a in
    let cause_b = cause_text q.rule.name b ++ end_b in
    let step_a = labelled (codes " step ") a.position ++ cause_a in
    let step_b = labelled (codes " step ") b.position ++ cause_b in
    let kind = one_kind a.kind b.kind (spelled_event (entry_names entries) a.event ++ (when_text a ++ cause_a)) (spelled_event (entry_names entries) b.event ++ (when_text b ++ cause_b))
    (sym (line_parts entries rules p.rule a p.of_rule) ∙ sym x.line_is ∙ y.line_is ∙ line_parts entries rules q.rule b q.of_rule) in
    let event = one_event printed one entries a.event b.event (when_text a ++ cause_a) (when_text b ++ cause_b) signature p.event q.event kind.1 in
    let time = one_labelled (codes " at ") a.time b.time step_a step_b small.time also.time (λ low high. omega arith) (λ low high. omega arith)
    (sym (when_split a cause_a) ∙ event.1 ∙ when_split b cause_b) in
    let position = one_labelled (codes " step ") a.position b.position cause_a cause_b small.position also.position (λ low high. omega arith) (λ low high. omega arith) time.1 in
    let name = one_word p.rule.name q.rule.name node_a node_b first.word second.word refl refl
    (cancel (codes " rule ") (p.rule.name ++ node_a) (q.rule.name ++ node_b) (sym (cause_split p.rule.name a end_a) ∙ position.1 ∙ cause_split q.rule.name b end_b)) in
    let rule : a.rule ≡ b.rule = named rules a.rule b.rule p.rule q.rule first second name.0 in
    let node = one_labelled (codes " node ") a.node b.node leaf_a leaf_b (omega (arith, small.node)) (omega (arith, also.node)) (λ low high. omega arith) (λ low high. omega arith) name.1 in
    let leaf = one_labelled (codes " leaf ") a.leaf b.leaf origin_a origin_b (omega (arith, small.leaf)) (omega (arith, also.leaf)) (λ low high. omega arith) (λ low high. omega arith) node.1 in
    let origin = one_labelled (codes " origin ") a.origin b.origin end_a end_b small.origin also.origin
    (no_digit_behind p.rule.vars (bindings a.valuation)) (no_digit_behind q.rule.vars (bindings b.valuation)) leaf.1 in
    let both : Some p.rule ≡ Some q.rule = sym p.of_rule ∙ ap (slice_get rules) rule ∙ q.of_rule in
    let same : p.rule ≡ q.rule = cc both in
    let there : StandIn plans a.rule a.node b.leaf q.scope =
    subst (λ (n : ℕ). StandIn plans a.rule n b.leaf q.scope) (sym node.0) (subst (λ (n : ℕ). StandIn plans n b.node b.leaf q.scope) (sym rule) q.nodes) in
    let scope : p.scope ≡ q.scope = scope_same plans a.rule a.node a.leaf b.leaf p.scope q.scope p.nodes there in
    let values = one_bindings printed one q.rule.vars (bindings a.valuation) (bindings b.valuation) (codes "\n") (codes "\n") (p.binds.variables ∙ scope ∙ sym q.binds.variables)
    p.binds.values q.binds.values (λ low high. omega arith) (λ low high. omega arith)
    (ap (λ (r : Rule). bindings_text r.vars (bindings a.valuation) ++ codes "\n") (sym same) ∙ origin.1) in
    same_action a b kind.0 event.0 time.0 position.0 rule node.0 leaf.0 origin.0 (finite.same_entries_map a.valuation b.valuation values.0)
