-- What misses nothing misses nothing after an action on a name that does not move it.
use Rattle.obligations.proofs.Vocabulary.{◌≡◌, ◌↔◌, ◌∙◌, ℕ, List, length, Contains, refl, sym, ap, subst, inl, AllByRecursion-weaker, step_at, Valuation, Event, NameId, Step, Formula, Sat}
use Rattle.obligations.proofs.Vocabulary.{NamesDecide, MoreEventsKeep, HaveSameNamedEvents, names_in_formula, nodes, Plan, CausePlan, SuppressPlan, Both, Either, TestOr, Guarded, EventuallyPlan}
use Rattle.obligations.proofs.Vocabulary.{AlwaysPlan, UntilPlan, NextPlan, MissingExists, IsPresent, HoldsLast, last_position, DiffersIn, Ignores, IsUnread, IsUnreadIn, IsUnmoved, IsUnmovedIn}
use Rattle.obligations.proofs.Vocabulary.{KeepsFalse, KeepsTrue, LeavesRest, LeavesRestIn, UnreadStaysMet, LiteralKind, brings}
use Rattle.std.specs.Prelude.{◌-◌, not}
use Rattle.enf_formula.proofs.PolarityLemmas.{ignored_asks}
use Rattle.obligations.proofs.MetStaysLemmas.{KeepsMet, stays_met}
use Rattle.obligations.specs.declared.literals.LiteralKind.TheVariants as kind

-- ---- traces that differ in a name

as_long : (k : LiteralKind) (name : NameId) (trace other : List Step) → DiffersIn k name trace other → length trace ≡ length other
as_long kind.Cause name trace other differs = differs.long
as_long kind.Suppress name trace other differs = sym differs.long

pub same_times : (k : LiteralKind) (name : NameId) (trace other : List Step) → DiffersIn k name trace other → (i : ℕ)
    → (step_at trace i).time ≡ (step_at other i).time
same_times kind.Cause name trace other differs i = differs.times i
same_times kind.Suppress name trace other differs i = sym (differs.times i)

pub same_others : (k : LiteralKind) (name : NameId) (trace other : List Step) → DiffersIn k name trace other → (i : ℕ) (e : Event)
    → (e.name ≡ name → ⊥) → Contains (step_at trace i).events e ↔ Contains (step_at other i).events e
same_others kind.Cause name trace other differs i e apart = (differs.more i e, differs.others i e apart)
same_others kind.Suppress name trace other differs i e apart = (differs.others i e apart, differs.more i e)

pub present_stays : (k : LiteralKind) (name : NameId) (trace other : List Step) → DiffersIn k name trace other → (i : ℕ) (e : Event)
    → (k ≡ kind.Suppress → e.name ≡ name → ⊥) → Contains (step_at trace i).events e → Contains (step_at other i).events e
present_stays kind.Cause name trace other differs i e unread there = differs.more i e there
present_stays kind.Suppress name trace other differs i e unread there = differs.others i e (unread refl) there

pub absent_stays : (k : LiteralKind) (name : NameId) (trace other : List Step) → DiffersIn k name trace other → (i : ℕ) (e : Event)
    → (k ≡ kind.Cause → e.name ≡ name → ⊥) → Contains (step_at other i).events e → Contains (step_at trace i).events e
absent_stays kind.Cause name trace other differs i e unread there = differs.others i e (unread refl) there
absent_stays kind.Suppress name trace other differs i e unread there = differs.more i e there

pub same_last : (k : LiteralKind) (name : NameId) (trace other : List Step) → DiffersIn k name trace other
    → last_position trace ≡ last_position other
same_last k name trace other differs = ap (λ n. n - 1) (as_long k name trace other differs)

-- ---- formulas on them

-- what held on the one trace holds on the other, and what holds on the other held on the one
kept_true : MoreEventsKeep → (k : LiteralKind) (name : NameId) (trace other : List Step) → DiffersIn k name trace other
    → (i : ℕ) (f : Formula) → KeepsTrue k name f → (v : Valuation) → Sat trace i v f → Sat other i v f
kept_true keep kind.Cause name trace other differs i f asks v holds = keep.there name trace other i v f differs asks holds
kept_true keep kind.Suppress name trace other differs i f asks v holds = keep.away name other trace i v f differs asks holds

kept_false : MoreEventsKeep → (k : LiteralKind) (name : NameId) (trace other : List Step) → DiffersIn k name trace other
    → (i : ℕ) (f : Formula) → KeepsFalse k name f → (v : Valuation) → Sat other i v f → Sat trace i v f
kept_false keep kind.Cause name trace other differs i f asks v holds = keep.away name trace other i v f differs asks holds
kept_false keep kind.Suppress name trace other differs i f asks v holds = keep.there name other trace i v f differs asks holds

module _ (k : LiteralKind) (name : NameId) (trace other : List Step) (differs : DiffersIn k name trace other) where
  pub same_named : (f : Formula) → Ignores name f → HaveSameNamedEvents (names_in_formula f) trace other
  same_named f ignores = record {
    long = as_long k name trace other differs;
    times = same_times k name trace other differs;
    events = λ i event among. same_others k name trace other differs i event (λ is. ignores (subst (Contains (names_in_formula f)) is among));
  }

  last_is : last_position trace ≡ last_position other
  last_is = same_last k name trace other differs

  pub same_holds : NamesDecide → (f : Formula) → Ignores name f → (v : Valuation) → HoldsLast trace v f ↔ HoldsLast other v f
  same_holds names f ignores v =
      let both = names trace other (last_position trace) v f (same_named f ignores) in (
        λ holds. subst (λ n. Sat other n v f) last_is (both.0 holds),
        λ holds. both.1 (subst (λ n. Sat other n v f) (sym last_is) holds),
      )

  pub at_last : (e : Event) → Contains (step_at other (last_position trace)).events e → IsPresent other e
  at_last e there = subst (λ n. Contains (step_at other n).events e) last_is there

  pub from_last : (e : Event) → IsPresent other e → Contains (step_at other (last_position trace)).events e
  from_last e there = subst (λ n. Contains (step_at other n).events e) (sym last_is) there

  unmoved_keeps : MoreEventsKeep → KeepsMet trace other (IsUnmoved k name)
  unmoved_keeps keep = record {
    caused = λ node place n terms unmoved e is there. at_last e
        (present_stays k name trace other differs (last_position trace) e (λ s named. unmoved s (sym is ∙ named)) there);
    suppressed = λ node place n terms unmoved e is absent there. absent
        (absent_stays k name trace other differs (last_position trace) e (λ s named. unmoved s (sym is ∙ named)) (from_last e there));
    tested = λ node guard test body keeps v holds.
        subst (λ n. Sat other n v test) last_is (kept_true keep k name trace other differs (last_position trace) test keeps v holds);
    guarded = λ node xs guard test body keeps v holds.
        kept_false keep k name trace other differs (last_position trace) test keeps v (subst (λ n. Sat other n v test) (sym last_is) holds);
  }

pub unread_stays_met : MoreEventsKeep → MissingExists → UnreadStaysMet
unread_stays_met keep exist guards k name trace other plan v differs unmoved can missing =
    stays_met exist guards trace other (IsUnmoved k name) (unmoved_keeps k name trace other differs keep) plan v unmoved can missing

-- ---- what does not read a name is not moved by an action on it, and misses the rest

unread_is_unmoved : (k : LiteralKind) (name : NameId) (node : Plan) → IsUnread k name node → IsUnmoved k name node
unread_is_unmoved k name (CausePlan node place other terms) unread = unread
unread_is_unmoved k name (SuppressPlan node place other terms) unread = unread
unread_is_unmoved k name (Both node left right) unread = tt
unread_is_unmoved k name (Either node left right) unread = tt
unread_is_unmoved k name (TestOr node guard test body) unread = ignored_asks name (brings k) test unread
unread_is_unmoved k name (Guarded node xs guard test body) unread = ignored_asks name (not (brings k)) test unread
unread_is_unmoved k name (EventuallyPlan node place low high body) unread = tt
unread_is_unmoved k name (AlwaysPlan node place low high body) unread = tt
unread_is_unmoved k name (UntilPlan node place low high left right) unread = tt
unread_is_unmoved k name (NextPlan node place high body) unread = tt

unread_is_rest : (k : LiteralKind) (name : NameId) (node : Plan) → IsUnread k name node → LeavesRest k name node
unread_is_rest k name (CausePlan node place other terms) unread = unread
unread_is_rest k name (SuppressPlan node place other terms) unread = unread
unread_is_rest k name (Both node left right) unread = unread
unread_is_rest k name (Either node left right) unread = unread
unread_is_rest k name (TestOr node guard test body) unread = unread
unread_is_rest k name (Guarded node xs guard test body) unread = inl unread
unread_is_rest k name (EventuallyPlan node place low high body) unread = unread
unread_is_rest k name (AlwaysPlan node place low high body) unread = unread
unread_is_rest k name (UntilPlan node place low high left right) unread = unread
unread_is_rest k name (NextPlan node place high body) unread = unread

pub unread_unmoved : (k : LiteralKind) (name : NameId) (plan : Plan) → IsUnreadIn k name plan → IsUnmovedIn k name plan
unread_unmoved k name plan unread =
    AllByRecursion-weaker (IsUnread k name) (IsUnmoved k name) (nodes plan) (unread_is_unmoved k name) unread

pub unread_rest : (k : LiteralKind) (name : NameId) (plan : Plan) → IsUnreadIn k name plan → LeavesRestIn k name plan
unread_rest k name plan unread =
    AllByRecursion-weaker (IsUnread k name) (LeavesRest k name) (nodes plan) (unread_is_rest k name) unread
