-- What the words ask for, and what files tell: one thing, so that what was found in a run is what they tell.
use Rattle.enf_run.proofs.Vocabulary.{◌≡◌, ℕ, ◌==◌, ◌≤◌, if◌then◌else◌, List, [], ◌∷◌, ◌++◌, Option, Some, None, Result, Err, Ok, length, codes, get_or, refl, sym, ap, subst, ◌∙◌, inl, inr, arith}
use Rattle.enf_run.proofs.Vocabulary.{AllByRecursion, ◌⊎◌, Contents, Stream, AcceptedIsNotRefused, OnePlans, RefusesPolicy, TypeRefusal, IsPolicyAnswer, Rule, IsScopedPlan, AreWellFormed}
use Rattle.enf_run.proofs.Vocabulary.{SaveSetting as Bounds, clock_behind_line, KeepsBounds, IsTextOfLines, lines_of, OneSaveAnswer as OneStateAnswer, OneText, AnswersSave, Snapshot}
use Rattle.enf_run.proofs.Vocabulary.{OneSignatureAnswer, same_signature_answer, AnswersSignature as IsSignatureAnswer, NameEntry, Start, from_nothing, Call, AreBytesHeld, AreBytesUnder, HoldsState}
use Rattle.enf_run.proofs.Vocabulary.{IsRefusedPolicy, IsRefusedSignature, IsRefusedState, ReadsPolicy, SpellsPolicy, SpellsRefusedPolicy, SpellsSignature, AreOfForm, Form, Audit, Check, Drill}
use Rattle.enf_run.proofs.Vocabulary.{Enforce, Generate, NoForm, AsksToEnforce, AsksToldEnforce, EnforceRefused, RefusesStateFile, TellsClock, WhereItStarts, RunOutcome, OutcomeOf, LogSetting}
use Rattle.enf_run.proofs.Vocabulary.{enforced_from, all_formulas, IsReadyState, States, option_words, state_words, states_of, refusal_status, RefusesRun, AsksUnderPolicy, RefusesPolicyFile}
use Rattle.enf_run.proofs.Vocabulary.{RefusesSignatureFile, HoldsStart, IsBounds, IsStartOf, state_bounds, AsksToldPolicy, AsksRefusedFile, AsksRefusedPolicy, AsksRefusedSignature, TellBytes}
use Rattle.enf_run.proofs.Vocabulary.{NamesEnforce, IsAuditForm, IsCheckForm, IsEnforceForm, MatchNoForm, NamesFiles, MOST_STATE_BYTES, PolicyRefusal, Refusal, SignatureRefusal, StateRefusal, Status}
use Rattle.enf_run.proofs.Vocabulary.{AreAccepted, ArePlanned, Formula, IsAccepted, Plan, PlansAreWellFormed, ReadIsWellFormed, VarId, NoFormRefused, RefusedOf, AsksPolicy, MatchNone}
use Rattle.formula_reader.specs.declared.policies.PolicyRefusal.{PolicyRefusal as PolicyTextRefusal}
use Rattle.save_codec.specs.declared.lines.Line.{Line}
use Rattle.save_codec.specs.declared.refusals.StateRefusal.{StateRefusal as StateTextRefusal}
use Rattle.signature.specs.declared.refusals.SignatureRefusal.{SignatureRefusal as TextRefusal}
use Rattle.enf_run.proofs.StartLemmas.{all_scoped}
use Rattle.enforce_types.specs.declared.refusals.TypeRefusal.TheVariants as types
use Rattle.save_codec.specs.declared.refusals.StateRefusal.TheVariants as texts
use Rattle.enf_run.specs.declared.refusals.PolicyRefusal.TheVariants as policies
use Rattle.enf_run.specs.declared.refusals.Refusal.TheVariants as refusals
use Rattle.enf_run.specs.declared.refusals.SignatureRefusal.TheVariants as signatures
use Rattle.enf_run.specs.declared.refusals.StateRefusal.TheVariants as state_refusals
use Rattle.enf_run.specs.declared.refusals.Status.TheVariants as statuses

-- ---- the words

-- words have one command
same_command : (words : List (List ℕ)) (command other : List ℕ) (more others : List (List ℕ)) → words ≡ command ∷ more → words ≡ other ∷ others → command ≡ other
same_command words command other more others e f =
    let both : command ∷ more ≡ other ∷ others = sym e ∙ f in
    cc

-- and the first two words after it
same_files : (words : List (List ℕ)) (command other signature policy signature' policy' : List ℕ)
    (more others : List (List ℕ)) → words ≡ command ∷ signature ∷ policy ∷ more → words
    ≡ other ∷ signature' ∷ policy' ∷ others
    → (signature ≡ signature') × (policy ≡ policy')
same_files words command other signature policy signature' policy' more others e f =
    let both : command ∷ signature ∷ policy ∷ more ≡ other ∷ signature' ∷ policy' ∷ others = sym e ∙ f in
    (cc, cc)

-- words that name files are a command, the two names, and what stands after these
record AreNamed (words : List (List ℕ)) (signature policy : List ℕ) : Type 0 where
  pub command : List ℕ
  pub more : List (List ℕ)
  pub form : words ≡ command ∷ signature ∷ policy ∷ more

named : (words : List (List ℕ)) (signature policy : List ℕ) → NamesFiles words signature policy → AreNamed words signature policy
named words signature policy (inl (states, e)) = record { command = codes "enforce"; more = state_words states; form = e }
named words signature policy (inr (inl e)) = record { command = codes "check"; more = []; form = e }
named words signature policy (inr (inr e)) = record { command = codes "audit"; more = []; form = e }

-- the words name one signature and one policy
pub one_form : (words : List (List ℕ)) (signature policy signature' policy' : List ℕ)
    → NamesFiles words signature policy → NamesFiles words signature' policy' → (signature ≡ signature')
    × (policy ≡ policy')
one_form words signature policy signature' policy' e f =
    let n = named words signature policy e in
    let m = named words signature' policy' f in
    same_files words n.command m.command signature policy signature' policy' n.more m.more n.form m.form

-- the command of a form
abbrev command_of : Form → List ℕ
command_of Enforce = codes "enforce"
command_of Check = codes "check"
command_of Audit = codes "audit"
command_of Generate = codes "gen"
command_of Drill = codes "drill"
command_of NoForm = []

-- the third letters of the commands differ
abbrev form_with : ℕ → Form
form_with letter =
    if letter == 102 then Enforce else if letter == 101 then Check else if letter == 100 then Audit else if letter == 110 then Generate else if letter == 105 then Drill else NoForm

abbrev form_by : List ℕ → Form
form_by command = form_with (get_or command 2 0)

form_known : (form : Form) → form_by (command_of form) ≡ form
form_known Enforce = refl
form_known Check = refl
form_known Audit = refl
form_known Generate = refl
form_known Drill = refl
form_known NoForm = refl

-- the options differ
first_word : (option other : List ℕ) (more others : List (List ℕ)) → option ∷ more ≡ other ∷ others → option ≡ other
first_word option other more others e = cc

options_differ : codes "--resume" ≡ codes "--save" → ⊥
options_differ e = omega (arith, ap length e)

-- so words that enforce name one file of a state to resume, or none, and one to save to, or none
same_words : (r s r' s' : Option (List ℕ)) → option_words (codes "--resume") r ++ option_words (codes "--save") s
    ≡ option_words (codes "--resume") r' ++ option_words (codes "--save") s' → (r ≡ r') × (s ≡ s')
same_words None None None None e = (refl, refl)
same_words None None None (Some y') e = absurd cc
same_words None None (Some x') None e = absurd cc
same_words None None (Some x') (Some y') e = absurd cc
same_words None (Some y) None None e = absurd cc
same_words None (Some y) None (Some y') e = (refl, ap Some cc)
same_words None (Some y) (Some x') None e = absurd (options_differ (sym (first_word (codes "--save") (codes "--resume") (y ∷ []) (x' ∷ []) e)))
same_words None (Some y) (Some x') (Some y') e = absurd cc
same_words (Some x) None None None e = absurd cc
same_words (Some x) None None (Some y') e = absurd (options_differ (first_word (codes "--resume") (codes "--save") (x ∷ []) (y' ∷ []) e))
same_words (Some x) None (Some x') None e = (ap Some cc, refl)
same_words (Some x) None (Some x') (Some y') e = absurd cc
same_words (Some x) (Some y) None None e = absurd cc
same_words (Some x) (Some y) None (Some y') e = absurd cc
same_words (Some x) (Some y) (Some x') None e = absurd cc
same_words (Some x) (Some y) (Some x') (Some y') e = (ap Some cc, ap Some cc)

pub one_states : (states others : States) (words : List (List ℕ)) (signature policy signature' policy' : List ℕ)
    → IsEnforceForm states words signature policy → IsEnforceForm others words signature' policy'
    → (states.resumed ≡ others.resumed) × (states.saved ≡ others.saved)
one_states states others words signature policy signature' policy' e f =
    let both : codes "enforce" ∷ signature ∷ policy ∷ state_words states ≡ codes "enforce" ∷ signature' ∷ policy' ∷ state_words others = sym e ∙ f in
    same_words states.resumed states.saved others.resumed others.saved cc

-- words that match none of the forms with these files match no form
pub no_form : (words : List (List ℕ)) → MatchNone words → MatchNoForm words
no_form words none =
    record {
      enforce = λ states signature policy e. by states.resumed states.saved signature policy e;
      check = none.check;
      audit = none.audit;
      generate = none.generate;
      drill = none.drill;
    }
  where
    by : (r s : Option (List ℕ)) (signature policy : List ℕ) → IsEnforceForm (states_of r s) words signature policy → ⊥
    by None None signature policy e = none.enforce signature policy e
    by None (Some file) signature policy e = none.save signature policy file e
    by (Some state) None signature policy e = none.resume signature policy state e
    by (Some state) (Some file) signature policy e = none.resume_and_save signature policy state file e

-- words that name files match a form
some_form : (words : List (List ℕ)) (signature policy : List ℕ) → NamesFiles words signature policy → MatchNoForm words → ⊥
some_form words signature policy (inl (states, e)) none = none.enforce states signature policy e
some_form words signature policy (inr (inl e)) none = none.check signature policy e
some_form words signature policy (inr (inr e)) none = none.audit signature policy e

-- words of a form begin with its command, or match none
record BeginWith (words : List (List ℕ)) (command : List ℕ) : Type 0 where
  pub more : List (List ℕ)
  pub form : words ≡ command ∷ more
  pub match : MatchNoForm words → ⊥

begin_with : (words : List (List ℕ)) (form : Form) → AreOfForm form words → BeginWith words (command_of form) ⊎ ((form ≡ NoForm) × MatchNoForm words)
begin_with words Enforce (states, signature, policy, e) = inl (record { more = signature ∷ policy ∷ state_words states; form = e; match = some_form words signature policy (inl (states, e)) })
begin_with words Check (signature, policy, e) = inl (record { more = signature ∷ policy ∷ []; form = e; match = some_form words signature policy (inr (inl e)) })
begin_with words Audit (signature, policy, e) = inl (record { more = signature ∷ policy ∷ []; form = e; match = some_form words signature policy (inr (inr e)) })
begin_with words Generate (start, steps, g) = inl (record { more = g.start_word ∷ g.steps_word ∷ []; form = g.form; match = λ none. none.generate start steps g })
begin_with words Drill (start, steps, g) = inl (record { more = g.start_word ∷ g.steps_word ∷ []; form = g.form; match = λ none. none.drill start steps g })
begin_with words NoForm none = inr (refl, none)

-- so they are of one form alone
one_form_alone : (words : List (List ℕ)) (form other : Form) → AreOfForm form words → AreOfForm other words → form ≡ other
one_form_alone words form other is also = by (begin_with words form is) (begin_with words other also)
  where
    by : BeginWith words (command_of form) ⊎ ((form ≡ NoForm) × MatchNoForm words) → BeginWith words (command_of other) ⊎ ((other ≡ NoForm) × MatchNoForm words) → form ≡ other
    by (inl a) (inl b) =
        let same = same_command words (command_of form) (command_of other) a.more b.more a.form b.form in
        sym (form_known form) ∙ ap form_by same ∙ form_known other
    by (inl a) (inr (none, b)) = absurd (a.match b)
    by (inr (none, a)) (inl b) = absurd (b.match a)
    by (inr (none, a)) (inr (none', b)) = none ∙ sym none'

pub outcome_of : {Gate : Type 0} (call : Call Gate) (status : Status) (form : Form) → AreOfForm form call.words → OutcomeOf form call status → RunOutcome call status
outcome_of call status form is holds =
    record { words = record { form = form; is_form = is; alone = λ other also. one_form_alone call.words other form also is }; holds = holds }

-- and what the table of theirs says holds
pub outcome_at : {Gate : Type 0} (call : Call Gate) (status : Status) (form : Form) → AreOfForm form call.words → RunOutcome call status → OutcomeOf form call status
outcome_at call status form is o = subst (λ (f : Form). OutcomeOf f call status) (sym (o.words.alone form is)) o.holds

-- ---- statuses that no refusal has

-- no refusal has the status of a violation
pub none_violates : (why : Refusal) → statuses.Violated ≡ refusal_status why → ⊥
none_violates refusals.Words is = cc
none_violates (refusals.Signature why) is = cc
none_violates (refusals.Policy why) is = cc
none_violates (refusals.State why) is = cc
none_violates (refusals.Record number why) is = cc
none_violates refusals.ReadFault is = cc

-- where words match a form, they are not refused
pub words_not_refused : {Gate : Type 0} (call : Call Gate) (form : Form) → ((report : Stream) → RefusedOf form call report refusals.Words → ⊥) → RefusesRun call (RefusedOf form call) statuses.Words → ⊥
words_not_refused call form none o = by o.why o.status_is o.meets
  where
    by : (why : Refusal) → statuses.Words ≡ refusal_status why → RefusedOf form call o.between why → ⊥
    by refusals.Words is m = none o.between m
    by (refusals.Signature why) is m = cc
    by (refusals.Policy why) is m = cc
    by (refusals.State why) is m = cc
    by (refusals.Record number why) is m = cc
    by refusals.ReadFault is m = cc

-- where they match none, nothing else is
pub words_alone : {Gate : Type 0} (call : Call Gate) (status : Status) → (status ≡ statuses.Words → ⊥) → RefusesRun call (NoFormRefused call) status → ⊥
words_alone call status differs o = by o.why o.status_is o.meets
  where
    by : (why : Refusal) → status ≡ refusal_status why → NoFormRefused call o.between why → ⊥
    by refusals.Words is m = differs is
    by (refusals.Signature why) is m = m
    by (refusals.Policy why) is m = m
    by (refusals.State why) is m = m
    by (refusals.Record number why) is m = m
    by refusals.ReadFault is m = m

-- to generate or to drill is never refused
pub generates_unrefused : {Gate : Type 0} (call : Call Gate) (report : Stream) (why : Refusal) → RefusedOf Generate call report why → ⊥
generates_unrefused call report refusals.Words m = m
generates_unrefused call report (refusals.Signature why) m = m
generates_unrefused call report (refusals.Policy why) m = m
generates_unrefused call report (refusals.State why) m = m
generates_unrefused call report (refusals.Record number why) m = m
generates_unrefused call report refusals.ReadFault m = m

pub drills_unrefused : {Gate : Type 0} (call : Call Gate) (report : Stream) (why : Refusal) → RefusedOf Drill call report why → ⊥
drills_unrefused call report refusals.Words m = m
drills_unrefused call report (refusals.Signature why) m = m
drills_unrefused call report (refusals.Policy why) m = m
drills_unrefused call report (refusals.State why) m = m
drills_unrefused call report (refusals.Record number why) m = m
drills_unrefused call report refusals.ReadFault m = m

-- ---- what files tell

-- where files tell a file's bytes, no others are under its name
told_bytes : (files : Option (List ℕ → Contents)) (name other all bytes : List ℕ) → name ≡ other → TellBytes files name all → AreBytesUnder files other bytes → bytes ≡ all
told_bytes None name other all bytes e told under = absurd told
told_bytes (Some files) name other all bytes e told under = subst (AreBytesHeld bytes) (ap files (sym e) ∙ told) under

-- each text of a policy has exactly one answer
abbrev pub OneTextAnswer : Type 0
OneTextAnswer = (entries : List NameEntry) (bytes : List ℕ)
    → (answer : Result (List Rule) PolicyTextRefusal) × IsPolicyAnswer entries bytes answer × ((other : Result (List Rule) PolicyTextRefusal) → IsPolicyAnswer entries bytes other → other ≡ answer)

-- so two answers to a text are the same
same_text_answer : OneTextAnswer → (entries : List NameEntry) (bytes : List ℕ)
    (answer other : Result (List Rule) PolicyTextRefusal) → IsPolicyAnswer entries bytes answer
    → IsPolicyAnswer entries bytes other → answer ≡ other
same_text_answer one entries bytes answer other is also = let all = one entries bytes in all.2 answer is ∙ sym (all.2 other also)

-- a form that names files
abbrev pub IsNaming : (List (List ℕ) → List ℕ → List ℕ → Type 0) → Type 0
IsNaming IsForm = (words : List (List ℕ)) (signature policy : List ℕ) → IsForm words signature policy → NamesFiles words signature policy

pub enforce_names : (states : States) → IsNaming (IsEnforceForm states)
enforce_names states words signature policy e = inl (states, e)

pub enforces_names : IsNaming NamesEnforce
enforces_names words signature policy e = inl e

pub check_names : IsNaming IsCheckForm
check_names words signature policy e = inr (inl e)

pub audit_names : IsNaming IsAuditForm
audit_names words signature policy e = inr (inr e)

-- what is asked for in one form
module _ {Gate : Type 0} (call : Call Gate) (entries : List NameEntry) (policy : List Rule) (IsForm : List (List ℕ) → List ℕ → List ℕ → Type 0) (names : IsNaming IsForm) where
  abbrev named_so : (Tells : Option (List ℕ → Contents) → List ℕ → List ℕ → Type 0) → AsksPolicy Tells IsForm call entries policy → AsksPolicy Tells NamesFiles call entries policy
  named_so Tells a =
      record {
        signature_file = a.signature_file;
        policy_file = a.policy_file;
        form = names call.words a.signature_file a.policy_file a.form;
        signature_bytes = a.signature_bytes;
        policy_bytes = a.policy_bytes;
        signature_told = a.signature_told;
        is_signature = a.is_signature;
        policy_told = a.policy_told;
        is_policy = a.is_policy;
      }

  abbrev pub asks_named : AsksUnderPolicy IsForm call entries policy → AsksUnderPolicy NamesFiles call entries policy
  asks_named a = named_so AreBytesUnder a

  abbrev pub policy_named : AsksToldPolicy IsForm call entries policy → AsksToldPolicy NamesFiles call entries policy
  policy_named t = named_so TellBytes t

-- words that name files, of which the signature is told
record AsksToldSignature {Gate : Type 0} (call : Call Gate) (entries : List NameEntry) : Type 0 where
  pub signature_file : List ℕ
  pub policy_file : List ℕ
  pub form : NamesFiles call.words signature_file policy_file
  pub bytes : List ℕ
  pub told : TellBytes call.before.files.contents signature_file bytes
  pub is_signature : SpellsSignature bytes entries

abbrev signature_asked : {Gate : Type 0} (call : Call Gate) (entries : List NameEntry) (policy : List Rule) → AsksToldPolicy NamesFiles call entries policy → AsksToldSignature call entries
signature_asked call entries policy t =
    record {
      signature_file = t.signature_file;
      policy_file = t.policy_file;
      form = t.form;
      bytes = t.signature_bytes;
      told = t.signature_told;
      is_signature = t.is_signature;
    }

-- ---- a state

-- the plans of an accepted policy that was read are well-formed
abbrev pub AcceptedIsFormed : Type 0
AcceptedIsFormed = (entries : List NameEntry) (bytes : List ℕ) (rules : List Rule) (plans : List Plan)
    (guards : List (Formula × List VarId)) → IsPolicyAnswer entries bytes (Ok rules)
    → IsAccepted entries (all_formulas rules)
    → ArePlanned entries (all_formulas rules) plans guards → AreWellFormed plans guards

pub accepted_formed : OnePlans → ReadIsWellFormed → PlansAreWellFormed → AcceptedIsFormed
accepted_formed one_plans well_formed formed entries bytes rules plans guards answer accepted planned =
    let same = one_plans entries (all_formulas rules) accepted.0 plans accepted.1 guards accepted.2 planned in
    let works = subst AreAccepted same.0 accepted.3 in
    formed entries rules plans guards (well_formed entries bytes rules answer) planned works.roles

-- those that bound the states of a policy that files have
pub bounds_formed : AcceptedIsFormed → (entries : List NameEntry) (bytes : List ℕ) (rules : List Rule) (bounds : Bounds)
    (b : IsBounds entries rules bounds) → SpellsPolicy entries bytes rules → AreWellFormed b.plans b.guards
bounds_formed forms entries bytes rules bounds b is = forms entries bytes rules b.plans b.guards is.reads.answer is.accepted b.planned

-- the bounds on states of a policy are one
one_bounds : OnePlans → (entries : List NameEntry) (rules : List Rule) (bounds other : Bounds) → IsBounds entries rules bounds → IsBounds entries rules other → bounds ≡ other
one_bounds one_plans entries rules bounds other b c =
    let same = one_plans entries (all_formulas rules) b.plans c.plans b.guards c.guards b.planned c.planned in
    b.bounds_are ∙ (λ i. state_bounds entries (same.0 i) (same.1 i)) ∙ sym c.bounds_are

-- the variables of their plans are in scope
scoped_bounds : (entries : List NameEntry) (rules : List Rule) (bounds : Bounds) (b : IsBounds entries rules bounds)
    → AreWellFormed b.plans b.guards → AllByRecursion (λ plan. IsScopedPlan plan []) bounds.plans
scoped_bounds entries rules bounds b formed = subst (λ (x : Bounds). AllByRecursion (λ plan. IsScopedPlan plan []) x.plans) (sym b.bounds_are) (all_scoped b.guards b.plans formed.each)

-- a text of a state within its bounds is not refused
module _ (one : OneStateAnswer) (signature policy bytes : List ℕ) (bounds : Bounds) (state : Snapshot) (scoped : AllByRecursion (λ plan. IsScopedPlan plan []) bounds.plans)
    (short : length bytes ≤ MOST_STATE_BYTES) (text : IsTextOfLines bytes signature policy (lines_of state)) (keeps : KeepsBounds bounds state) where
  state_answers : (refusal : StateTextRefusal) → AnswersSave bounds bytes signature policy (Err refusal) → ⊥
  state_answers refusal refused =
      let same : ◌≡◌ {A = Result Snapshot StateTextRefusal} (Ok state) (Err refusal) = one bounds bytes signature policy (Ok state) (Err refusal) (omega (arith, short)) scoped (text, keeps) refused in
      absurd cc

  state_not_refused : (why : StateRefusal) → IsRefusedState why signature policy bounds bytes → ⊥
  state_not_refused state_refusals.TooLong refused = omega (arith, short, refused)
  state_not_refused (state_refusals.Text (texts.Syntax line)) refused = state_answers (texts.Syntax line) refused.1
  state_not_refused (state_refusals.Text texts.OtherPolicy) refused = state_answers texts.OtherPolicy refused.1
  state_not_refused (state_refusals.Text (texts.Inconsistent line)) refused = state_answers (texts.Inconsistent line) refused.1
  state_not_refused (state_refusals.Text texts.NoMemory) refused = refused

-- the clock in the first line of a saved text
abbrev clock_first : List Line → ℕ
clock_first [] = 0
clock_first (line ∷ lines) = clock_behind_line 0 line

-- what is read of files that tell has the clock that they tell
clock_of_told : OneText → (resumed : Option (List ℕ)) (told : Option (List ℕ → Contents))
    (entries : List NameEntry) (rules : List Rule) (signature policy : List ℕ) (bounds : Bounds) (state : List ℕ)
    (clock also : ℕ)
    → TellsClock resumed told entries rules signature policy clock → HoldsStart resumed told signature policy bounds state also → clock ≡ also
clock_of_told one None told entries rules signature policy bounds state clock also tells holds = tells ∙ sym holds.1
clock_of_told one (Some name) told entries rules signature policy bounds state clock also tells (kept, h, is) =
    let all : state ≡ tells.0 = told_bytes told name name tells.0 state refl tells.2 h.under in
    let text = subst (λ (bytes : List ℕ). IsTextOfLines bytes signature policy (lines_of kept)) all h.text in
    let same = one tells.0 signature policy signature policy (lines_of tells.4.0) (lines_of kept) (omega (arith, tells.4.1.short)) tells.4.1.text text in
    tells.4.2 ∙ ap clock_first same.2 ∙ sym is

-- files tell from where the run starts: from nothing; or from whatever the bytes of a state are that of
abbrev pub StartsTold : (resumed : Option (List ℕ)) → Option (List ℕ → Contents) → List NameEntry → List Rule → (signature policy : List ℕ) → Start → Type 0
StartsTold None told entries rules signature policy start = start ≡ from_nothing
StartsTold (Some name) told entries rules signature policy start = (state : List ℕ) × TellBytes told name state × IsReadyState entries rules signature policy start state

-- and from there it starts with what is read of them
start_of_told : (resumed : Option (List ℕ)) (told : Option (List ℕ → Contents)) (entries : List NameEntry)
    (rules : List Rule) (signature policy state : List ℕ) (bounds : Bounds) (clock : ℕ) (start : Start)
    → StartsTold resumed told entries rules signature policy start → HoldsStart resumed told signature policy bounds state clock → IsStartOf resumed entries rules signature policy state start
start_of_told None told entries rules signature policy state bounds clock start from holds = from
start_of_told (Some name) told entries rules signature policy state bounds clock start (bytes, is, ready) holds =
    let same : state ≡ bytes = told_bytes told name name bytes state refl is holds.1.under in
    subst (IsReadyState entries rules signature policy start) (sym same) ready

-- ---- the sources of a run

-- each text of a signature has one answer, and each of a policy; and a policy that is accepted is not refused
module _ (one : OneSignatureAnswer) (one_text : OneTextAnswer) (accepted : AcceptedIsNotRefused) where
  -- bytes are one signature at most
  pub same_signature : (bytes : List ℕ) (entries others : List NameEntry) → SpellsSignature bytes entries → SpellsSignature bytes others → entries ≡ others
  same_signature bytes entries others p q =
      let same : ◌≡◌ {A = Result (List NameEntry) TextRefusal} (Ok entries) (Ok others) = same_signature_answer one bytes (Ok entries) (Ok others) p.answer q.answer in
      cc

  -- and one policy
  pub same_policy : (entries : List NameEntry) (bytes : List ℕ) (policy other : List Rule) → ReadsPolicy entries bytes (Ok policy) → ReadsPolicy entries bytes (Ok other) → policy ≡ other
  same_policy entries bytes policy other p q =
      let same : ◌≡◌ {A = Result (List Rule) PolicyTextRefusal} (Ok policy) (Ok other) = same_text_answer one_text entries bytes (Ok policy) (Ok other) p.answer q.answer in
      cc

  -- a text that spells a signature has no refusal
  spelled_not_refused : (bytes : List ℕ) (entries : List NameEntry) (refusal : TextRefusal) → SpellsSignature bytes entries → IsSignatureAnswer bytes (Err refusal) → ⊥
  spelled_not_refused bytes entries refusal is refused =
      let same : ◌≡◌ {A = Result (List NameEntry) TextRefusal} (Ok entries) (Err refusal) = same_signature_answer one bytes (Ok entries) (Err refusal) is.answer refused in
      absurd cc

  signature_not_refused : (why : SignatureRefusal) (bytes : List ℕ) (entries : List NameEntry) → SpellsSignature bytes entries → IsRefusedSignature why bytes → ⊥
  signature_not_refused signatures.TooLong bytes entries is refused = omega (arith, is.short, refused)
  signature_not_refused (signatures.Text why name) bytes entries is refused = spelled_not_refused bytes entries why is refused.1

  -- nor has one that spells an accepted policy, by its reading or by its typing
  read_not_refused : (entries : List NameEntry) (bytes : List ℕ) (policy : List Rule) (refusal : PolicyTextRefusal) → SpellsPolicy entries bytes policy → IsPolicyAnswer entries bytes (Err refusal) → ⊥
  read_not_refused entries bytes policy refusal is refused =
      let same : ◌≡◌ {A = Result (List Rule) PolicyTextRefusal} (Ok policy) (Err refusal) = same_text_answer one_text entries bytes (Ok policy) (Err refusal) is.reads.answer refused in
      absurd cc

  typed_not_refused : (entries : List NameEntry) (bytes : List ℕ) (policy : List Rule) (refusal : TypeRefusal)
      → SpellsPolicy entries bytes policy → SpellsRefusedPolicy entries bytes refusal → refusal
      ≡ types.NoMemory
  typed_not_refused entries bytes policy refusal is refused =
      let same = same_policy entries bytes refused.policy policy refused.reads is.reads in
      accepted entries (all_formulas policy) refusal is.accepted (subst (λ (rules : List Rule). RefusesPolicy entries (all_formulas rules) refusal) same refused.refused)

  policy_not_refused : (entries : List NameEntry) (why : PolicyRefusal) (bytes : List ℕ) (policy : List Rule) → SpellsPolicy entries bytes policy → IsRefusedPolicy entries why bytes → ⊥
  policy_not_refused entries policies.TooLong bytes policy is refused = omega (arith, is.reads.short, refused)
  policy_not_refused entries (policies.Text why) bytes policy is refused = read_not_refused entries bytes policy why is refused.answer
  policy_not_refused entries (policies.Typing (types.Unguarded place) name) bytes policy is refused = let none =
      typed_not_refused entries bytes policy (types.Unguarded place) is refused.0 in absurd cc
  policy_not_refused entries (policies.Typing (types.NotEnforceable place) name) bytes policy is refused = let none =
      typed_not_refused entries bytes policy (types.NotEnforceable place) is refused.0 in absurd cc
  policy_not_refused entries (policies.Typing (types.RoleClash number) name) bytes policy is refused = let none =
      typed_not_refused entries bytes policy (types.RoleClash number) is refused.0 in absurd cc
  policy_not_refused entries (policies.Typing (types.Untriggered place) name) bytes policy is refused = let none =
      typed_not_refused entries bytes policy (types.Untriggered place) is refused.0 in absurd cc
  policy_not_refused entries (policies.Typing (types.Cyclic number) name) bytes policy is refused = let none = typed_not_refused entries bytes policy (types.Cyclic number) is refused.0 in absurd cc
  policy_not_refused entries (policies.Typing types.NoMemory name) bytes policy is refused = absurd refused

  module _ {Gate : Type 0} (call : Call Gate) (entries : List NameEntry) (t : AsksToldSignature call entries) where
    -- files have no other signature under the name
    one_signature : (signature policy bytes : List ℕ) (others : List NameEntry)
        → NamesFiles call.words signature policy → AreBytesUnder call.before.files.contents signature bytes
        → SpellsSignature bytes others → entries ≡ others
    one_signature signature policy bytes others form under spells =
        let names = one_form call.words t.signature_file t.policy_file signature policy t.form form in
        let all = told_bytes call.before.files.contents t.signature_file signature t.bytes bytes names.0 t.told under in
        same_signature t.bytes entries others t.is_signature (subst (λ (b : List ℕ). SpellsSignature b others) all spells)

    -- the signature is not refused
    no_signature_refusal : (IsForm : List (List ℕ) → List ℕ → List ℕ → Type 0) → IsNaming IsForm → (why : SignatureRefusal) → AsksRefusedSignature AreBytesUnder IsForm call why → ⊥
    no_signature_refusal IsForm naming why r =
        let names = one_form call.words t.signature_file t.policy_file r.signature_file r.policy_file t.form (naming call.words r.signature_file r.policy_file r.form) in
        let all = told_bytes call.before.files.contents t.signature_file r.signature_file t.bytes r.bytes names.0 t.told r.told in
        signature_not_refused why t.bytes entries t.is_signature (subst (IsRefusedSignature why) all r.refused)

    -- nor have they another policy under the name
    one_policy : (bytes : List ℕ) → TellBytes call.before.files.contents t.policy_file bytes
        → (others : List NameEntry) (policy : List Rule) → AsksUnderPolicy NamesFiles call others policy
        → (entries ≡ others) × SpellsPolicy entries bytes policy
    one_policy bytes told others policy a =
        let same = one_signature a.signature_file a.policy_file a.signature_bytes others a.form a.signature_told a.is_signature in
        let names = one_form call.words t.signature_file t.policy_file a.signature_file a.policy_file t.form a.form in
        let all = told_bytes call.before.files.contents t.policy_file a.policy_file bytes a.policy_bytes names.1 told a.policy_told in
        let here = subst (λ (es : List NameEntry). SpellsPolicy es a.policy_bytes policy) (sym same) a.is_policy in
        (same, subst (λ (b : List ℕ). SpellsPolicy entries b policy) all here)

  module _ {Gate : Type 0} (call : Call Gate) (IsForm : List (List ℕ) → List ℕ → List ℕ → Type 0) (naming : IsNaming IsForm) where
    -- a signature that is refused is under no name of a run
    refused_signature_not_asked : (why : SignatureRefusal) → AsksRefusedSignature TellBytes IsForm call why → (entries : List NameEntry) (policy : List Rule) → AsksUnderPolicy IsForm call entries policy → ⊥
    refused_signature_not_asked why t entries policy a =
        let names = one_form call.words t.signature_file t.policy_file a.signature_file a.policy_file
        (naming call.words t.signature_file t.policy_file t.form)
        (naming call.words a.signature_file a.policy_file a.form) in
        let all = told_bytes call.before.files.contents t.signature_file a.signature_file t.bytes a.signature_bytes names.0 t.told a.signature_told in
        signature_not_refused why t.bytes entries (subst (λ (b : List ℕ). SpellsSignature b entries) all a.is_signature) t.refused

    -- nor is a policy that is refused
    refused_policy_not_asked : (why : PolicyRefusal) → AsksRefusedPolicy TellBytes IsForm call why → (others : List NameEntry) (policy : List Rule) → AsksUnderPolicy IsForm call others policy → ⊥
    refused_policy_not_asked why t others policy a =
        let told : AsksToldSignature call t.entries = record {
          signature_file = t.signature_file;
          policy_file = t.policy_file;
          form = naming call.words t.signature_file t.policy_file t.form;
          bytes = t.signature_bytes;
          told = t.signature_told;
          is_signature = t.is_signature;
        } in
        policy_not_refused t.entries why t.policy_bytes policy
        (one_policy call t.entries told t.policy_bytes t.policy_told others policy (asks_named call others policy IsForm naming a)).1 t.refused

    -- so no file is refused of those that are asked for
    pub not_asked : AsksRefusedFile IsForm call → (entries : List NameEntry) (policy : List Rule) → AsksUnderPolicy IsForm call entries policy → ⊥
    not_asked (inl (why, t)) entries policy a = refused_signature_not_asked why t entries policy a
    not_asked (inr (why, t)) entries policy a = refused_policy_not_asked why t entries policy a

    -- neither file is refused where the policy is told and accepted
    module _ (entries : List NameEntry) (policy : List Rule) (told : AsksToldPolicy IsForm call entries policy) (report : Stream) where
      abbrev t : AsksToldPolicy NamesFiles call entries policy
      t = policy_named call entries policy IsForm naming told

      pub no_refused_signature : (why : SignatureRefusal) → RefusesSignatureFile IsForm call report why → ⊥
      no_refused_signature why r = no_signature_refusal call entries (signature_asked call entries policy t) IsForm naming why r.0

      pub no_refused_policy : (why : PolicyRefusal) → RefusesPolicyFile IsForm call report why → ⊥
      no_refused_policy why m =
          let w = m.0 in
          let form = naming call.words w.signature_file w.policy_file w.form in
          let same = one_signature call entries (signature_asked call entries policy t) w.signature_file w.policy_file w.signature_bytes w.entries form w.signature_told w.is_signature in
          let names = one_form call.words t.signature_file t.policy_file w.signature_file w.policy_file t.form form in
          let all = told_bytes call.before.files.contents t.policy_file w.policy_file t.policy_bytes w.policy_bytes names.1 t.policy_told w.policy_told in
          let here = subst (λ (es : List NameEntry). IsRefusedPolicy es why w.policy_bytes) (sym same) w.refused in
          policy_not_refused entries why t.policy_bytes policy t.is_policy (subst (IsRefusedPolicy entries why) all here)

  module _ {Gate : Type 0} (call : Call Gate) (entries : List NameEntry) (policy : List Rule) (t : AsksToldPolicy NamesFiles call entries policy) where
    -- the files tell one signature and one policy
    pub one_asked : (others : List NameEntry) (other : List Rule) → AsksUnderPolicy NamesFiles call others other → (entries ≡ others) × (policy ≡ other)
    one_asked others other a =
        let same = one_policy call entries (signature_asked call entries policy t) t.policy_bytes t.policy_told others other a in
        (same.0, same_policy entries t.policy_bytes policy other t.is_policy.reads same.1.reads)

    -- and these bytes of each
    pub one_source : (others : List NameEntry) (other : List Rule) (a : AsksUnderPolicy NamesFiles call others other) → (a.signature_bytes ≡ t.signature_bytes) × (a.policy_bytes ≡ t.policy_bytes)
    one_source others other a =
        let told = call.before.files.contents in
        let names = one_form call.words t.signature_file t.policy_file a.signature_file a.policy_file t.form a.form in (
          told_bytes told t.signature_file a.signature_file t.signature_bytes a.signature_bytes names.0 t.signature_told a.signature_told,
          told_bytes told t.policy_file a.policy_file t.policy_bytes a.policy_bytes names.1 t.policy_told a.policy_told,
        )

  -- words that ask to enforce tell, and name, the same files: those of the sources, and those of the states
  module _ {Gate : Type 0} (call : Call Gate) (states : States) (entries : List NameEntry) (rules : List Rule)
      (t : AsksToldPolicy (IsEnforceForm states) call entries rules) (his : States) (others : List NameEntry)
      (other : List Rule) (a : AsksUnderPolicy (IsEnforceForm his) call others other) where
    abbrev told_policy : AsksToldPolicy NamesFiles call entries rules
    told_policy = policy_named call entries rules (IsEnforceForm states) (enforce_names states) t

    abbrev asked_files : AsksUnderPolicy NamesFiles call others other
    asked_files = asks_named call others other (IsEnforceForm his) (enforce_names his) a

    pub same_asked : (entries ≡ others) × (rules ≡ other)
    same_asked = one_asked call entries rules told_policy others other asked_files

    pub same_sources : (a.signature_bytes ≡ t.signature_bytes) × (a.policy_bytes ≡ t.policy_bytes)
    same_sources = one_source call entries rules told_policy others other asked_files

    pub same_states : (states.resumed ≡ his.resumed) × (states.saved ≡ his.saved)
    same_states = one_states states his call.words t.signature_file t.policy_file a.signature_file a.policy_file t.form a.form

    -- what holds under the bytes that are told holds under those that were read
    under_read : (P : (signature policy : List ℕ) → Type 0) → P t.signature_bytes t.policy_bytes → P a.signature_bytes a.policy_bytes
    under_read P h =
        let of_signature = subst (λ (bytes : List ℕ). P bytes t.policy_bytes) (sym same_sources.0) h in
        subst (λ (bytes : List ℕ). P a.signature_bytes bytes) (sym same_sources.1) of_signature

    -- a log is enforced from the clock on that files tell
    pub same_clock : OneText → (clock : ℕ) → TellsClock states.resumed call.before.files.contents entries rules t.signature_bytes t.policy_bytes clock
        → (bounds : Bounds) (state : List ℕ) (also : ℕ) → HoldsStart his.resumed call.before.files.contents a.signature_bytes a.policy_bytes bounds state also → clock ≡ also
    same_clock one_state clock tells bounds state also holds =
        let told = call.before.files.contents in
        let of_states = subst (λ (o : Option (List ℕ)). TellsClock o told entries rules t.signature_bytes t.policy_bytes clock) same_states.0 tells in
        let of_sources = under_read (λ (signature policy : List ℕ). TellsClock his.resumed told entries rules signature policy clock) of_states in
        clock_of_told one_state his.resumed told entries rules a.signature_bytes a.policy_bytes bounds state clock also of_sources holds

    module _ (one_answer : OneStateAnswer) (one_plans : OnePlans) (bounds there : Bounds)
        (b : IsBounds entries rules bounds) (c : IsBounds others other there)
        (formed : AreWellFormed c.plans c.guards) where
      same_bounds : bounds ≡ there
      same_bounds =
          let of_entries = subst (λ (es : List NameEntry). IsBounds es rules bounds) same_asked.0 b in
          one_bounds one_plans others other bounds there (subst (λ (rs : List Rule). IsBounds others rs bounds) same_asked.1 of_entries) c

      -- no state that is read is refused by what files tell
      pub read_not_refused_state : (name : List ℕ) → his.resumed ≡ Some name → (bytes : List ℕ)
          → TellBytes call.before.files.contents name bytes → (why : StateRefusal)
          → IsRefusedState why t.signature_bytes t.policy_bytes bounds bytes
          → (state : List ℕ) (clock : ℕ) → HoldsStart his.resumed call.before.files.contents a.signature_bytes a.policy_bytes there state clock → ⊥
      read_not_refused_state name named bytes told why refused state clock holds =
          let held = subst (λ (o : Option (List ℕ)). HoldsStart o call.before.files.contents a.signature_bytes a.policy_bytes there state clock) named holds in
          let h = held.1 in
          let all : state ≡ bytes = told_bytes call.before.files.contents name name bytes state refl told h.under in
          let of_bytes = subst (IsRefusedState why t.signature_bytes t.policy_bytes bounds) (sym all) refused in
          let of_bounds = subst (λ (x : Bounds). IsRefusedState why t.signature_bytes t.policy_bytes x state) same_bounds of_bytes in
          let here = under_read (λ (signature policy : List ℕ). IsRefusedState why signature policy there state) of_bounds in
          state_not_refused one_answer a.signature_bytes a.policy_bytes state there held.0 (scoped_bounds others other there c formed) h.short h.text h.keeps why here

      -- and none that files tell was refused where it was read
      pub told_not_refused_state : (name : List ℕ) (bytes : List ℕ)
          → TellBytes call.before.files.contents name bytes → (kept : Snapshot)
          → HoldsState call.before.files.contents name bytes t.signature_bytes t.policy_bytes bounds kept
          → (why : StateRefusal) (held : List ℕ) → AreBytesUnder call.before.files.contents name held
          → IsRefusedState why a.signature_bytes a.policy_bytes there held → ⊥
      told_not_refused_state name bytes told kept h why held under refused =
          let all : held ≡ bytes = told_bytes call.before.files.contents name name bytes held refl told under in
          let here = subst (IsRefusedState why a.signature_bytes a.policy_bytes there) all refused in
          let text = under_read (λ (signature policy : List ℕ). IsTextOfLines bytes signature policy (lines_of kept)) h.text in
          let keeps = subst (λ (x : Bounds). KeepsBounds x kept) same_bounds h.keeps in
          state_not_refused one_answer a.signature_bytes a.policy_bytes bytes there kept (scoped_bounds others other there c formed) h.short text keeps why here

  -- where files tell what is to be enforced, none of them is refused
  module _ (one_plans : OnePlans) (forms : AcceptedIsFormed) (one_answer : OneStateAnswer) {Gate : Type 0} (call : Call Gate) (entries : List NameEntry) (clock : ℕ) (t : AsksToldEnforce call entries clock) where
    abbrev asks_enforce : AsksToldPolicy NamesEnforce call entries t.rules
    asks_enforce =
        let a = t.asks in
        record {
          signature_file = a.signature_file;
          policy_file = a.policy_file;
          form = (t.states, a.form);
          signature_bytes = a.signature_bytes;
          policy_bytes = a.policy_bytes;
          signature_told = a.signature_told;
          is_signature = a.is_signature;
          policy_told = a.policy_told;
          is_policy = a.is_policy;
        }

    no_refused_state : (report : Stream) (why : StateRefusal) → RefusesStateFile call report why → ⊥
    no_refused_state report why r =
        let m = r.0 in
        let named = same_states call t.states entries t.rules t.asks m.states m.entries m.rules m.asks in
        let s = subst (λ (o : Option (List ℕ)). TellsClock o call.before.files.contents entries t.rules t.asks.signature_bytes t.asks.policy_bytes clock) (named.0 ∙ m.named) t.starts in
        told_not_refused_state call t.states entries t.rules t.asks m.states m.entries m.rules m.asks one_answer one_plans s.1 m.bounds s.3 m.are_bounds
        (bounds_formed forms m.entries m.asks.policy_bytes m.rules m.bounds m.are_bounds m.asks.is_policy)
        m.file s.0 s.2 s.4.0 s.4.1 why m.bytes m.told m.refused

    pub enforced_told : RefusesRun call (EnforceRefused call) statuses.Files → ⊥
    enforced_told o = by o.why o.status_is o.meets
      where
        by : (why : Refusal) → statuses.Files ≡ refusal_status why → EnforceRefused call o.between why → ⊥
        by refusals.Words is m = m
        by (refusals.Signature why) is m = no_refused_signature call NamesEnforce enforces_names entries t.rules asks_enforce o.between why m
        by (refusals.Policy why) is m = no_refused_policy call NamesEnforce enforces_names entries t.rules asks_enforce o.between why m
        by (refusals.State why) is m = no_refused_state o.between why m
        by (refusals.Record number why) is m = cc
        by refusals.ReadFault is m = cc

  -- from where files tell that a run starts, it starts with what was read of them
  module _ {Gate : Type 0} (call : Call Gate) (states : States) (entries : List NameEntry) (rules : List Rule)
      (t : AsksToldPolicy (IsEnforceForm states) call entries rules) (his : States) (a : AsksToEnforce call his)
      (start : Start)
      (starts : StartsTold states.resumed call.before.files.contents entries rules t.signature_bytes t.policy_bytes start) where
    abbrev asked_so : (entries ≡ a.entries) × (rules ≡ a.rules)
    asked_so = same_asked call states entries rules t his a.entries a.rules a.asks

    pub starts_told : IsStartOf his.resumed a.entries a.rules a.asks.signature_bytes a.asks.policy_bytes a.state start
    starts_told =
        let told = call.before.files.contents in
        let named = same_states call states entries rules t his a.entries a.rules a.asks in
        let of_states = subst (λ (o : Option (List ℕ)). StartsTold o told entries rules t.signature_bytes t.policy_bytes start) named.0 starts in
        let of_entries = subst (λ (es : List NameEntry). StartsTold his.resumed told es rules t.signature_bytes t.policy_bytes start) asked_so.0 of_states in
        let of_rules = subst (λ (rs : List Rule). StartsTold his.resumed told a.entries rs t.signature_bytes t.policy_bytes start) asked_so.1 of_entries in
        let of_sources = under_read call states entries rules t his a.entries a.rules a.asks
        (λ (signature policy : List ℕ). StartsTold his.resumed told a.entries a.rules signature policy start)
        of_rules in
        start_of_told his.resumed told a.entries a.rules a.asks.signature_bytes a.asks.policy_bytes a.state a.bounds a.clock start of_sources a.holds_start

    -- so what holds from wherever it may start holds in the setting from there
    pub at_told : (P : LogSetting → Type 0) → WhereItStarts his a P → P (enforced_from entries rules start)
    at_told P ran = subst P (λ i. enforced_from (sym asked_so.0 i) (sym asked_so.1 i) start) (ran start starts_told)
