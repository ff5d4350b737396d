use Rattle.windows.proofs.Vocabulary.{◌≡◌, ◌∙◌, ◌<◌, ◌≤◌, ◌-◌, Contains, ℕ, List, length, Global, ap, arith, refl, subst, sym, RiseTo}
use Rattle.std.proofs.Common.{Box}
use Rattle.std.specs.declared.collections.VecDeque.{VecDeque}
use Rattle.windows.specs.declared.times.Stored.{Stored}
use Rattle.windows.specs.declared.times.Stored.TheVariants.{Empty, One, Several}
use Rattle.windows.specs.machine.StoredTimes.{stored_times}
use Rattle.windows.specs.machine.WindowEntries.{SettlesTimes}
use Rattle.windows.proofs.TimeLemmas.{ended_settles, few_settled, rising_of}
use Rattle.windows.proofs.times.Times.settle.Goals as goal

-- what is not several is one at most
few_stored : (s : Stored) (times : List ℕ) → ((x : Box (VecDeque ℕ Global) Global) → s ≡ Several x → ⊥) → stored_times s ≡ times → length times < 2
few_stored Empty times not_several view = subst (λ l. length l < 2) view (omega arith)
few_stored (One t) times not_several view = subst (λ l. length l < 2) view (omega arith)
few_stored (Several x) times not_several view = absurd (not_several x refl)

pub settle_all-requires : goal.settle_all-requires
settle_all-requires c = subst (RiseTo c.args.now) (sym (ap (λ d. d.items) c.deref_mut.ensures.value ∙ sym (ap stored_times c.in-Several.is) ∙ c.self.view_is)) c.requires

pub invariant_of-self : goal.invariant_of-self
invariant_of-self c = rising_of c.args.now c.settle_all.new.times.items c.settle_all.ensures.rise

pub returns-in-Several : goal.returns-in-Several
returns-in-Several c = subst (λ b. SettlesTimes c.args.high c.args.low c.args.now b c.settle_all.new.times.items)
    (ap (λ d. d.items) c.deref_mut.ensures.value ∙ sym (ap stored_times c.in-Several.is) ∙ c.self.view_is) c.settle_all.ensures

pub returns-then-not-are_ended : goal.returns-then-not-are_ended
returns-then-not-are_ended c =
    subst (SettlesTimes c.args.high c.args.low c.args.now c.args.self.now) (sym c.self.view_is)
    (few_settled c.args.high c.args.low c.args.now c.args.self.now (few_stored c.self.inside.stored c.args.self.now c.in_default.not-Several c.self.view_is) c.requires
    (subst (λ l. (x : ℕ) × Contains l x × (c.args.now - x ≤ c.args.high)) c.self.view_is (c.are_ended.ensures.live c.if-not-are_ended.true)))

pub returns : goal.returns
returns c = ended_settles c.args.high c.args.low c.args.now c.args.self.now
    (subst (λ l. (x : ℕ) → Contains l x → c.args.high < c.args.now - x) c.self.view_is (c.are_ended.ensures.ended c.if-not-are_ended.false))
