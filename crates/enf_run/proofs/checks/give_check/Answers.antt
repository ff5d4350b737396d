use Rattle.enf_run.proofs.Vocabulary.{List, ℕ, Bool, ◌++◌, Result, Err, Ok, map, subst, err_from_is_err_and, rule_of, horizon_line, mark_line, role_lines, rule_lines, WritesText, Cut, Stream}
use Rattle.enf_run.proofs.TextLemmas.{Broken, Whole, cut_first, then_cut, then_whole}
use Rattle.enf_run.proofs.checks.give_check.Goals as goal

-- after a text another one, however that ends
then_any : (first rest : List ℕ) (a b c : Stream) → Whole first a b → (result : Result (Unit {0}) Cut) → WritesText rest result b c → WritesText (first ++ rest) result a c
then_any first rest a b c whole (Ok done) w = then_whole first rest a b whole c w
then_any first rest a b c whole (Err cut) w = then_cut first rest a b whole c cut w

pub returns-in_err-give_rules : goal.returns-in_err-give_rules
returns-in_err-give_rules g c =
    let p = err_from_is_err_and c.from_residual.result c.from_residual.ensures.1 in
    let seen = g.S.Sink.seen in
    let cut = c.in_err-give_rules.field-0.0 in
    let ranked = c.args.typed.now.ranked in
    let rules = rule_lines c.args.signature.now (map rule_of c.args.rules.now) in
    let mark = mark_line ranked.transparent in
    let horizon = horizon_line ranked.horizon in
    let roles = role_lines c.args.signature.now ranked.roles in
    let a = seen c.args.sink.now in
    let b = seen c.give_rules.new.sink in
    rw (p.1, p.2) (cut_first (rules ++ mark ++ horizon) roles a b cut (cut_first (rules ++ mark) horizon a b cut (cut_first rules mark a b cut c.in_err-give_rules.ensures)))

pub returns-in_err-give_mark : goal.returns-in_err-give_mark
returns-in_err-give_mark g c =
    let p = err_from_is_err_and c.from_residual-in_err-give_mark.result c.from_residual-in_err-give_mark.ensures.1 in
    let seen = g.S.Sink.seen in
    let cut = c.in_err-give_mark.field-0.0 in
    let ranked = c.args.typed.now.ranked in
    let rules = rule_lines c.args.signature.now (map rule_of c.args.rules.now) in
    let mark = mark_line ranked.transparent in
    let horizon = horizon_line ranked.horizon in
    let roles = role_lines c.args.signature.now ranked.roles in
    let a = seen c.args.sink.now in
    let b = seen c.give_rules.new.sink in
    let d = seen c.give_mark.new.sink in
    let given = subst (λ (transparent : Bool). Broken (mark_line transparent) cut b d) c.is_transparent.ensures c.in_err-give_mark.ensures in
    rw (p.1, p.2) (cut_first (rules ++ mark ++ horizon) roles a d cut (cut_first (rules ++ mark) horizon a d cut (then_cut rules mark a b c.in_ok-give_rules.ensures d cut given)))

pub returns-in_err-give_horizon : goal.returns-in_err-give_horizon
returns-in_err-give_horizon g c =
    let p = err_from_is_err_and c.from_residual-in_err-give_horizon.result c.from_residual-in_err-give_horizon.ensures.1 in
    let seen = g.S.Sink.seen in
    let cut = c.in_err-give_horizon.field-0.0 in
    let ranked = c.args.typed.now.ranked in
    let rules = rule_lines c.args.signature.now (map rule_of c.args.rules.now) in
    let mark = mark_line ranked.transparent in
    let horizon = horizon_line ranked.horizon in
    let roles = role_lines c.args.signature.now ranked.roles in
    let a = seen c.args.sink.now in
    let b = seen c.give_rules.new.sink in
    let d = seen c.give_mark.new.sink in
    let e = seen c.give_horizon.new.sink in
    let marked = subst (λ (transparent : Bool). Whole (mark_line transparent) b d) c.is_transparent.ensures c.in_ok-give_mark.ensures in
    let given = subst (λ (n : ℕ). Broken (horizon_line n) cut d e) c.horizon.ensures.value c.in_err-give_horizon.ensures in
    rw (p.1, p.2) (cut_first (rules ++ mark ++ horizon) roles a e cut (then_cut (rules ++ mark) horizon a d (then_whole rules mark a b c.in_ok-give_rules.ensures d marked) e cut given))

pub returns : goal.returns
returns g c =
    let seen = g.S.Sink.seen in
    let ranked = c.args.typed.now.ranked in
    let rules = rule_lines c.args.signature.now (map rule_of c.args.rules.now) in
    let mark = mark_line ranked.transparent in
    let horizon = horizon_line ranked.horizon in
    let roles = role_lines c.args.signature.now ranked.roles in
    let a = seen c.args.sink.now in
    let b = seen c.give_rules.new.sink in
    let d = seen c.give_mark.new.sink in
    let e = seen c.give_horizon.new.sink in
    let marked = subst (λ (transparent : Bool). Whole (mark_line transparent) b d) c.is_transparent.ensures c.in_ok-give_mark.ensures in
    let given = subst (λ (n : ℕ). Whole (horizon_line n) d e) c.horizon.ensures.value c.in_ok-give_horizon.ensures in
    let first = then_whole (rules ++ mark) horizon a d (then_whole rules mark a b c.in_ok-give_rules.ensures d marked) e given in
    then_any (rules ++ mark ++ horizon) roles a e (seen c.give_roles.new.sink) first c.give_roles.result c.give_roles.ensures
