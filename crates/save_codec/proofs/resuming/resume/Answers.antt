-- The lines of the text are those of a state, or one of them breaks the bounds.
use Rattle.save_codec.proofs.Vocabulary.{map, refl, IfErr-weaker, IfOk-weaker, plan_of, tree_in, SaveSetting, KeepsBounds, IsTextOfLines, lines_of, IsStateOf, IsUnfitLine, lines_in, IsSaveRefusal}
use Rattle.save_codec.proofs.ResumeLemmas.{keeps_bounds, lines_refused, state_text, text_of_parts}
use Rattle.save_codec.proofs.resuming.resume.Goals as goal

pub state-requires-clause-judge : goal.state-requires-clause-judge
state-requires-clause-judge c =
    let s : SaveSetting = record { entries = c.requires.spells.0; plans = map plan_of c.args.plans.now; guards = map tree_in c.args.guards.now } in
    (s, c.in_ok-judge.ensures s (record { spells = c.requires.spells.1; plans_are = refl; guards_are = refl }))

pub returns-clause-text : goal.returns-clause-text
returns-clause-text c =
    let s : SaveSetting = record { entries = c.requires.spells.0; plans = map plan_of c.args.plans.now; guards = map tree_in c.args.guards.now } in
    let is = c.in_ok-judge.ensures s (record { spells = c.requires.spells.1; plans_are = refl; guards_are = refl }) in
    let lines = lines_in c.in_ok-text.text.parts in
    let text = text_of_parts c.args.bytes.now c.in_ok-text.text.signature.now c.in_ok-text.text.policy.now c.args.signature.now c.args.policy.now (lines_in c.in_ok-text.text.parts) lines
    (c.is_same.ensures.0 c.if-not-is_same.false) (c.is_same-else-not-is_same.ensures.0 c.if-not-is_same-2.false) refl c.in_ok-text.ensures.ok in
    IfOk-weaker c.state.result (IsStateOf s lines) (λ state. IsTextOfLines c.args.bytes.now c.args.signature.now c.args.policy.now (lines_of state))
    (λ state of. state_text c.args.bytes.now c.args.signature.now c.args.policy.now s lines state text of) (c.state.ensures.ok s is)

pub returns-clause-bounds : goal.returns-clause-bounds
returns-clause-bounds c = λ s is.
    let lines = lines_in c.in_ok-text.text.parts in
    let text = text_of_parts c.args.bytes.now c.in_ok-text.text.signature.now c.in_ok-text.text.policy.now c.args.signature.now c.args.policy.now (lines_in c.in_ok-text.text.parts) lines
    (c.is_same.ensures.0 c.if-not-is_same.false) (c.is_same-else-not-is_same.ensures.0 c.if-not-is_same-2.false) refl c.in_ok-text.ensures.ok in
    IfOk-weaker c.state.result (IsStateOf s lines) (KeepsBounds s) (λ state of. keeps_bounds s lines state text.form of) (c.state.ensures.ok s (c.in_ok-judge.ensures s is))

pub returns-clause-refused : goal.returns-clause-refused
returns-clause-refused c = λ s is.
    let lines = lines_in c.in_ok-text.text.parts in
    let text = text_of_parts c.args.bytes.now c.in_ok-text.text.signature.now c.in_ok-text.text.policy.now c.args.signature.now c.args.policy.now (lines_in c.in_ok-text.text.parts) lines
    (c.is_same.ensures.0 c.if-not-is_same.false) (c.is_same-else-not-is_same.ensures.0 c.if-not-is_same-2.false) refl c.in_ok-text.ensures.ok in
    IfErr-weaker c.state.result (IsUnfitLine s lines) (IsSaveRefusal s c.args.bytes.now c.args.signature.now c.args.policy.now)
    (λ refusal unfit. lines_refused c.args.bytes.now c.args.signature.now c.args.policy.now s lines refusal text unfit) (c.state.ensures.err s (c.in_ok-judge.ensures s is))
