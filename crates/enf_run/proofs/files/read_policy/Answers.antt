use Rattle.enf_run.proofs.Vocabulary.{List, ℕ, Ok, Err, subst, Formula, IsAccepted, IsTyped, RefusesPolicy, Typed, typed_of, GivesPolicyAnswer, IsPolicyAnswer, policy_rules_of, NameEntry, IsShortFile}
use Rattle.enf_run.proofs.Vocabulary.{all_formulas}
use Rattle.enf_run.proofs.FileLemmas.{same_formulas}
use Rattle.enf_run.proofs.files.read_policy.Goals as goal

is_accepted : (entries : List NameEntry) (policy : List Formula) (typed : Typed) → IsTyped entries policy typed → IsAccepted entries policy
is_accepted entries policy typed t = (typed.plans, typed.guards, t.planned, t.accepted)

pub returns-in-Ok-of-clause-typed : goal.returns-in-Ok-of-clause-typed
returns-in-Ok-of-clause-typed g c =
    subst (λ (fs : List Formula). IsTyped c.args.signature.now fs (typed_of c.in-Ok-of.typed)) (same_formulas c.in-Ok.policy.rules) c.in-Ok-of.ensures.typed

pub returns-in-Ok-of-clause-held : goal.returns-in-Ok-of-clause-held
returns-in-Ok-of-clause-held g c =
    let entries = c.args.signature.now in
    let policy = policy_rules_of c.in-Ok.policy in
    let bytes = c.in-Some.bytes.items in
    let short : IsShortFile 1048576 (g.F.Files.seen c.args.files.now).contents c.args.name.now bytes = rw c.in-Some.is at c.in_ok-bytes.ensures.bytes in
    let answer = subst (λ (text : List ℕ). IsPolicyAnswer entries text (Ok policy)) c.deref.ensures.value c.in-Ok.ensures.answer in
    let typed = subst (λ (fs : List Formula). IsTyped entries fs (typed_of c.in-Ok-of.typed)) (same_formulas c.in-Ok.policy.rules) c.in-Ok-of.ensures.typed in
    record {
      under = short.under;
      is_policy = record { reads = record { short = short.short; answer = answer }; accepted = is_accepted entries (all_formulas policy) (typed_of c.in-Ok-of.typed) typed };
    }

pub returns-in_ok-type_refusal_of-in-Err-of-clause-ends : goal.returns-in_ok-type_refusal_of-in-Err-of-clause-ends
returns-in_ok-type_refusal_of-in-Err-of-clause-ends g c =
    let entries = c.args.signature.now in
    let policy = policy_rules_of c.in-Ok.policy in
    let bytes = c.in-Some.bytes.items in
    let short : IsShortFile 1048576 (g.F.Files.seen c.args.files.now).contents c.args.name.now bytes = rw c.in-Some.is at c.in_ok-bytes.ensures.bytes in
    let answer = subst (λ (text : List ℕ). IsPolicyAnswer entries text (Ok policy)) c.deref.ensures.value c.in-Ok.ensures.answer in
    let refused = subst (λ (fs : List Formula). RefusesPolicy entries fs c.in-Err-of.refusal) (same_formulas c.in-Ok.policy.rules) c.in-Err-of.ensures.refused in
    let why = c.in_ok-type_refusal_of-in-Err-of.ensures bytes (record { policy = policy; reads = record { short = short.short; answer = answer }; refused = refused }) in
    (record { bytes = bytes; under = short.under; refused = why }, c.in_ok-bytes.ensures.same)

pub returns-in-Err-clause-ends : goal.returns-in-Err-clause-ends
returns-in-Err-clause-ends g c =
    let entries = c.args.signature.now in
    let bytes = c.in-Some.bytes.items in
    let short : IsShortFile 1048576 (g.F.Files.seen c.args.files.now).contents c.args.name.now bytes = rw c.in-Some.is at c.in_ok-bytes.ensures.bytes in
    let answer = subst (λ (text : List ℕ). GivesPolicyAnswer entries text (Err c.in-Err.refusal)) c.deref.ensures.value c.in-Err.ensures.answer in
    let why = c.in_ok-policy_refusal_of-in-Err.ensures entries bytes short.short answer in
    (record { bytes = bytes; under = short.under; refused = why }, c.in_ok-bytes.ensures.same)
