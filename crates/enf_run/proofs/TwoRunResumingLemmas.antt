-- What a run comes to fits the signature, and what it has saved so is not refused.
use Rattle.enf_run.proofs.Vocabulary.{◌≡◌, ◌∙◌, ℕ, ◌<◌, ◌≤◌, ◌^◌, List, [], ◌++◌, length, Option, None, Some, refl, sym, ap, subst, arith, Contents, FileBytes, Stream, Step, AcceptedIsNotRefused}
use Rattle.enf_run.proofs.Vocabulary.{OnePlans, PlansAreWellFormed, TraceFits, FollowsFitsSignature, SavedKeepsBounds, Rule, ReadIsWellFormed, OneSaveAnswer as OneStateAnswer, OneSignatureAnswer}
use Rattle.enf_run.proofs.Vocabulary.{NameEntry, Start, Call, AreBytesHeld, AreBytesUnder, Enforce, IsAskedRun, StartsAt, States, records_of, AsksToldEnforce, TellsClock, WritesRun, comes_to}
use Rattle.enf_run.proofs.Vocabulary.{AskedIsTaken, ComesToFitting, FittingGoesOn, IsFittingStart, IsShortState, FromNothingFits, SavedIsTaken, SavesFitting, state_bounds, MOST_STATE_BYTES}
use Rattle.enf_run.proofs.Vocabulary.{answer_of_rules, rules_of_answer}
use Rattle.std.specs.Prelude.{Ok}
use Rattle.enf_run.proofs.RequestLemmas.{AcceptedIsFormed, OneTextAnswer, accepted_formed, enforced_told, outcome_at}
use Rattle.enf_run.proofs.TwoRunFitLemmas.{read_fits, trace_fits}
use Rattle.enf_run.proofs.HeadlineLemmas.{asks_policy, held}
use Rattle.enf_run.proofs.ReadyStateLemmas.{clock_in_time}
use Rattle.enf_run.proofs.SavedStateLemmas.{same_trace}
use Rattle.enf_run.proofs.TwoRunCallLemmas.{may_start, same_entries}
use Rattle.enf_run.specs.declared.refusals.Status.TheVariants as statuses

-- ---- what a run comes to

pub nothing_fits : FromNothingFits
nothing_fits entries = record { events = trace_fits entries [] tt; in_time = omega arith }

-- the plans of an accepted policy that was read
module _ (one_plans : OnePlans) (well_formed : ReadIsWellFormed) (formed : PlansAreWellFormed) where
  forms : AcceptedIsFormed
  forms = accepted_formed one_plans well_formed formed

  module _ (follows_fits : FollowsFitsSignature) where
    pub comes_fitting : (Gate : Type 0) → ComesToFitting Gate
    comes_fitting Gate call report file paused start starts fits =
        let entries = paused.asks.entries in
        let rules = paused.asks.rules in
        let policy = paused.asks.asks.is_policy in
        let bytes = paused.asks.asks.policy_bytes in
        let ran = paused.ran start starts in
        let a = ran.answers in
        let d = a.owed.decided in
        let works = forms entries bytes rules d.plans d.guards policy.reads.answer policy.accepted d.planned in
        let behind = follows_fits entries rules bytes d.plans d.guards start.trace (records_of a.read) a.out policy.reads.answer d.planned works fits.events
        (read_fits entries ran.taken a.read ran.rest a.accepts.spelled) d.follows in
        record {
          events = subst (λ (steps : List Step). TraceFits entries (start.trace ++ steps)) (sym (same_trace a.out)) behind;
          in_time = clock_in_time entries ran.taken a.read ran.rest start.clock a.accepts.spelled fits.in_time;
        }

  -- ---- what is resumed

  module _ (keeps : SavedKeepsBounds) (one : OneSignatureAnswer) (one_text : OneTextAnswer)
      (accepted : AcceptedIsNotRefused) (one_answer : OneStateAnswer) (follows_fits : FollowsFitsSignature)
      (Gate : Type 0) where
    -- a state of a trace that fits is within its bounds, so files tell from which clock on a log is enforced
    tells_clock : (call : Call Gate) (states : States) (start : Start) (entries : List NameEntry) (rules : List Rule)
        (asked : IsAskedRun call.words call.before.files.contents states start entries rules)
        → IsFittingStart entries start → length start.trace < 2 ^ 63 → (resumed : Option (List ℕ))
        → StartsAt resumed asked.files entries rules asked.signature asked.policy start
        → IsShortState resumed asked.files
        → TellsClock resumed call.before.files.contents entries rules asked.signature asked.policy start.clock
    tells_clock call states start entries rules asked fits few None starts short = ap (λ (s : Start). s.clock) starts
    tells_clock call states start entries rules asked fits few (Some file) (state, holds, ready) short =
        let told = call.before.files.contents in
        let is = ready.is_state in
        let works = forms entries asked.policy rules is.plans is.guards (answer_of_rules entries asked.policy rules asked.is_policy.1) asked.accepted is.planned in
        let under = subst (λ (o : Option (List ℕ → Contents)). AreBytesUnder o file state) (sym asked.tell) (subst (AreBytesHeld state) (sym holds) refl) in (
          state,
          state_bounds entries is.plans is.guards,
          held told asked.files file state asked.tell holds,
          record { plans = is.plans; guards = is.guards; planned = is.planned; bounds_are = refl },
          (
            is.text.0,
            record {
              under = under;
              short = short state holds;
              text = ready.form;
              keeps = keeps entries rules asked.policy is.plans is.guards start.trace start.clock is.text.0 (answer_of_rules entries asked.policy rules asked.is_policy.1) is.planned works ready.is_trace ready.ready
                  fits.in_time fits.events few is.text.1;
            },
            sym is.text.1.clocked,
          ),
        )

    pub asked_is_taken : AskedIsTaken Gate
    asked_is_taken call states start entries rules asked fits few short =
        let told : AsksToldEnforce call entries start.clock = record {
          states = states;
          rules = rules;
          asks = asks_policy call states start entries rules asked;
          starts = tells_clock call states start entries rules asked fits few states.resumed asked.starts short;
        } in
        record {
          asks = told;
          not_refused = λ refused. enforced_told one one_text accepted one_plans forms one_answer call entries start.clock told
              (outcome_at call statuses.Files Enforce (states, asked.signature_file, asked.policy_file, asked.form) refused);
        }

    -- what has saved so has come to where it fits
    saved_fits : (call : Call Gate) (report : Stream) (saved : WritesRun call report (Ok tt))
        (fitting : SavesFitting saved) → IsFittingStart saved.paused.asks.entries
        (comes_to saved.paused fitting.start fitting.starts)
    saved_fits call report saved fitting = comes_fitting follows_fits Gate call report saved.file saved.paused fitting.start fitting.starts fitting.fits

    same_contents : (x y : List ℕ) → ◌≡◌ {A = Contents} (FileBytes x) (FileBytes y) → x ≡ y
    same_contents x y e = cc

    pub saved_is_taken : SavedIsTaken Gate
    saved_is_taken first second report saved fitting takes =
        let a = saved.paused.asks in
        let signature = a.asks.is_signature in
        let policy = a.asks.is_policy in
        let at = comes_to saved.paused fitting.start fitting.starts in
        let ready = saved.ready fitting.start fitting.starts fitting.few in
        let asked : IsAskedRun second.words second.before.files.contents takes.states at a.entries a.rules = record {
          signature_file = takes.signature_file;
          policy_file = takes.policy_file;
          form = takes.form;
          files = takes.files;
          tell = takes.tell;
          signature = a.asks.signature_bytes;
          first = takes.signature;
          is_signature = (signature.short, signature.answer);
          policy = a.asks.policy_bytes;
          second = takes.policy;
          is_policy = (policy.reads.short, rules_of_answer a.entries a.asks.policy_bytes a.rules policy.reads.answer);
          accepted = policy.accepted;
          starts = subst (λ (o : Option (List ℕ)). StartsAt o takes.files a.entries a.rules a.asks.signature_bytes a.asks.policy_bytes at) (sym takes.named)
              (saved.state, takes.state, ready);
        } in
        let short = subst (λ (o : Option (List ℕ)). IsShortState o takes.files) (sym takes.named)
        (λ state holds. subst (λ (bytes : List ℕ). length bytes ≤ MOST_STATE_BYTES) (same_contents saved.state state (sym takes.state ∙ holds)) fitting.short) in
        asked_is_taken second takes.states at a.entries a.rules asked (saved_fits first report saved fitting) fitting.few short

    pub fitting_goes_on : FittingGoesOn Gate
    fitting_goes_on first second report report' saved fitting next goes_on =
        let a = saved.paused.asks in
        let b = next.paused.asks in
        let at = comes_to saved.paused fitting.start fitting.starts in
        let ready = saved.ready fitting.start fitting.starts fitting.few in
        let same = same_entries one one_text accepted saved.paused.states next.paused.states a b goes_on.sources in
        (may_start one one_text accepted saved next.paused.states b goes_on at ready, subst (λ (names : List NameEntry). IsFittingStart names at) (sym same) (saved_fits first report saved fitting))
