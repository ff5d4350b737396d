-- What was printed of a line before memory ran out.
use Rattle.action_report.proofs.Vocabulary.{◌++◌, ◌∷◌, List, ℕ, codes, slice_get, ap, subst, ◌∙◌, AppendsPart, bindings, VarId, Value, none_last, part_behind, part_first, part_last, on_err_from}
use Rattle.action_report.proofs.Vocabulary.{entry_names as names_of, spelled_event, policy_rules_of, bindings_text, cause_text, kind_text, rule_name, rule_variable_names, when_text}
use Rattle.action_report.proofs.lines.write_action.Goals as goal

pub returns-in_err-print_event-clause-err : goal.returns-in_err-print_event-clause-err
returns-in_err-print_event-clause-err c =
    let rule = slice_get (policy_rules_of c.args.policy.now) c.args.action.now.rule in
    let event : List ℕ = 32 ∷ spelled_event (names_of c.args.signature.now) c.args.action.now.event in
    let cause = cause_text (rule_name rule) c.args.action.now in
    let values = bindings_text (rule_variable_names rule) (bindings c.args.action.now.valuation) in
    let kind = c.in_ok-print_bytes.ensures.ok ∙ ap (λ (t : List ℕ). c.args.out.now.items ++ t) c.kind_word.ensures in
    on_err_from _ (part_behind (kind_text c.args.action.now.kind) (event ++ (when_text c.args.action.now ++ (cause ++ (values ++ codes "\n")))) _ _ _ kind
    (part_first event (when_text c.args.action.now ++ (cause ++ (values ++ codes "\n"))) _ _ c.in_err-print_event.ensures.err))

pub returns-in_err-print_when-clause-err : goal.returns-in_err-print_when-clause-err
returns-in_err-print_when-clause-err c =
    let rule = slice_get (policy_rules_of c.args.policy.now) c.args.action.now.rule in
    let event : List ℕ = 32 ∷ spelled_event (names_of c.args.signature.now) c.args.action.now.event in
    let cause = cause_text (rule_name rule) c.args.action.now in
    let values = bindings_text (rule_variable_names rule) (bindings c.args.action.now.valuation) in
    let kind = c.in_ok-print_bytes.ensures.ok ∙ ap (λ (t : List ℕ). c.args.out.now.items ++ t) c.kind_word.ensures in
    on_err_from _ (part_behind (kind_text c.args.action.now.kind) (event ++ (when_text c.args.action.now ++ (cause ++ (values ++ codes "\n")))) _ _ _ kind
    (part_behind event (when_text c.args.action.now ++ (cause ++ (values ++ codes "\n"))) _ _ _ c.in_ok-print_event.ensures.ok
    (part_first (when_text c.args.action.now) (cause ++ (values ++ codes "\n")) _ _ c.in_err-print_when.ensures.err)))

pub returns-in_err-print_cause-clause-err : goal.returns-in_err-print_cause-clause-err
returns-in_err-print_cause-clause-err c =
    let rule = slice_get (policy_rules_of c.args.policy.now) c.args.action.now.rule in
    let event : List ℕ = 32 ∷ spelled_event (names_of c.args.signature.now) c.args.action.now.event in
    let cause = cause_text (rule_name rule) c.args.action.now in
    let values = bindings_text (rule_variable_names rule) (bindings c.args.action.now.valuation) in
    let kind = c.in_ok-print_bytes.ensures.ok ∙ ap (λ (t : List ℕ). c.args.out.now.items ++ t) c.kind_word.ensures in
    on_err_from _ (part_behind (kind_text c.args.action.now.kind) (event ++ (when_text c.args.action.now ++ (cause ++ (values ++ codes "\n")))) _ _ _ kind
    (part_behind event (when_text c.args.action.now ++ (cause ++ (values ++ codes "\n"))) _ _ _ c.in_ok-print_event.ensures.ok
    (part_behind (when_text c.args.action.now) (cause ++ (values ++ codes "\n")) _ _ _ c.in_ok-print_when.ensures.ok
    (part_first cause (values ++ codes "\n") _ _
    (subst (λ (n : List ℕ). AppendsPart (cause_text n c.args.action.now) c.print_when.new.out.items c.print_cause.new.out.items) c.rule_name.ensures c.in_err-print_cause.ensures.err)))))

pub returns-in_err-print_bindings-clause-err : goal.returns-in_err-print_bindings-clause-err
returns-in_err-print_bindings-clause-err c =
    let rule = slice_get (policy_rules_of c.args.policy.now) c.args.action.now.rule in
    let event : List ℕ = 32 ∷ spelled_event (names_of c.args.signature.now) c.args.action.now.event in
    let cause = cause_text (rule_name rule) c.args.action.now in
    let values = bindings_text (rule_variable_names rule) (bindings c.args.action.now.valuation) in
    let kind = c.in_ok-print_bytes.ensures.ok ∙ ap (λ (t : List ℕ). c.args.out.now.items ++ t) c.kind_word.ensures in
    let named = c.in_ok-print_cause.ensures.ok ∙ ap (λ (n : List ℕ). c.print_when.new.out.items ++ cause_text n c.args.action.now) c.rule_name.ensures in
    on_err_from _ (part_behind (kind_text c.args.action.now.kind) (event ++ (when_text c.args.action.now ++ (cause ++ (values ++ codes "\n")))) _ _ _ kind
    (part_behind event (when_text c.args.action.now ++ (cause ++ (values ++ codes "\n"))) _ _ _ c.in_ok-print_event.ensures.ok
    (part_behind (when_text c.args.action.now) (cause ++ (values ++ codes "\n")) _ _ _ c.in_ok-print_when.ensures.ok
    (part_behind cause (values ++ codes "\n") _ _ _ named
    (part_first values (codes "\n") _ _
    (subst (λ (l : List (VarId × Value)). AppendsPart (bindings_text (rule_variable_names rule) l) c.print_cause.new.out.items c.print_bindings.new.out.items) c.bindings.ensures
    (subst (λ (v : List (List ℕ)). AppendsPart (bindings_text v c.bindings.result.now) c.print_cause.new.out.items c.print_bindings.new.out.items) c.variables_of.ensures
    c.in_err-print_bindings.ensures.err)))))))

pub returns-clause-err : goal.returns-clause-err
returns-clause-err c =
    let rule = slice_get (policy_rules_of c.args.policy.now) c.args.action.now.rule in
    let event : List ℕ = 32 ∷ spelled_event (names_of c.args.signature.now) c.args.action.now.event in
    let cause = cause_text (rule_name rule) c.args.action.now in
    let values = bindings_text (rule_variable_names rule) (bindings c.args.action.now.valuation) in
    let kind = c.in_ok-print_bytes.ensures.ok ∙ ap (λ (t : List ℕ). c.args.out.now.items ++ t) c.kind_word.ensures in
    let named = c.in_ok-print_cause.ensures.ok ∙ ap (λ (n : List ℕ). c.print_when.new.out.items ++ cause_text n c.args.action.now) c.rule_name.ensures in
    let bound = c.in_ok-print_bindings.ensures.ok ∙ ap (λ (v : List (List ℕ)). c.print_cause.new.out.items ++ bindings_text v c.bindings.result.now) c.variables_of.ensures
    ∙ ap (λ (l : List (VarId × Value)). c.print_cause.new.out.items ++ bindings_text (rule_variable_names rule) l) c.bindings.ensures in
    part_last _ (kind_text c.args.action.now.kind) (event ++ (when_text c.args.action.now ++ (cause ++ (values ++ codes "\n")))) _ _ _ kind
    (part_last _ event (when_text c.args.action.now ++ (cause ++ (values ++ codes "\n"))) _ _ _ c.in_ok-print_event.ensures.ok
    (part_last _ (when_text c.args.action.now) (cause ++ (values ++ codes "\n")) _ _ _ c.in_ok-print_when.ensures.ok
    (part_last _ cause (values ++ codes "\n") _ _ _ named
    (part_last _ values (codes "\n") _ _ _ bound (none_last _ (codes "\n") _ _ c.print_byte.ensures.err)))))
