use Rattle.pending.proofs.Vocabulary.{◌≡◌, ◌∙◌, ◌++◌, ◌∷◌, [], suc, ap, append_assoc, arith, length, length-append, map, refl, subst, sym, plan_of, HasOneMoreEntry, IsFreePlace, beginning_at, Entry}
use Rattle.pending.proofs.Vocabulary.{Instance, ArePendingEntries, entries_from, entry_at}
use Rattle.std.proofs.Common.{append-nil}
use Rattle.pending.proofs.EntryLemmas.{free_below, more_kept, put_first}
use Rattle.pending.proofs.progress_all.put_listed.Goals as goal

pub loop-instance-init : goal.loop-instance-init
loop-instance-init c =
    let none = c.requires.none in (
      ([], sym (append-nil c.into_vec-instances.result.items), none),
      subst (ArePendingEntries 1) (sym none) (record { placed = tt; fit = tt }),
      c.requires.held,
      c.requires.queue,
    )

pub put_one-requires-clause-free : goal.put_one-requires-clause-free
put_one-requires-clause-free c =
    let before = c.loop-instance.sleepers.entries in
    let (put, all, are) = c.loop-instance.invariant.0 in
    let n = c.len-among.result in
    let len : n ≡ c.pop.new.self.len = c.len-among.ensures in
    let held = c.pop.new.self.ok.0 in
    let items = ap length c.in-Some.ensures.items in
    let one = length-append c.pop.new.self.items (c.in-Some.instance ∷ []) in
    subst (λ (e : Entry Instance). IsFreePlace e.place before) (sym c.in_ok-entry.ensures)
    (subst (IsFreePlace (beginning_at 0 n ∷ [])) (sym are)
    (free_below (map plan_of c.args.plans.now) c.args.time n (length c.loop-instance.instances.items) put (omega (arith, len, held, items, one))))

pub loop-instance-preserved : goal.loop-instance-preserved
loop-instance-preserved c =
    let plans = map plan_of c.args.plans.now in
    let before = c.loop-instance.sleepers.entries in
    let after = c.put_one.new.sleepers.entries in
    let (put, all, are) = c.loop-instance.invariant.0 in
    let x = c.in-Some.instance in
    let rest = c.pop.new.self.items in
    let n = length rest in
    let len : c.len-among.result ≡ c.pop.new.self.len = c.len-among.ensures in
    let held = c.pop.new.self.ok.0 in
    let items = ap length c.in-Some.ensures.items in
    let one_more = length-append rest (x ∷ []) in
    let among : c.len-among.result ≡ n = omega (arith, len, held) in
    let count : length c.loop-instance.instances.items ≡ suc n = omega (arith, items, one_more) in
    let entry : c.in_ok-entry.entry ≡ entry_at plans c.args.time (beginning_at 0 n ∷ []) x = c.in_ok-entry.ensures ∙ ap (λ m. entry_at plans c.args.time (beginning_at 0 m ∷ []) x) among in
    let one : HasOneMoreEntry (entry_at plans c.args.time (beginning_at 0 n ∷ []) x) before after = subst (λ (e : Entry Instance). HasOneMoreEntry e before after) entry c.in_ok-put_one.ensures.puts in (
      (
        x ∷ put,
        all ∙ ap (λ l. l ++ put) c.in-Some.ensures.items ∙ append_assoc rest (x ∷ []) put,
        put_first plans c.args.time n x put before after (are ∙ ap (λ m. entries_from plans c.args.time [] 0 m put) count) one,
      ),
      more_kept 1 (entry_at plans c.args.time (beginning_at 0 n ∷ []) x) before after one c.loop-instance.invariant.1 (record { made = (omega arith, tt) }),
      c.in_ok-put_one.ensures.held,
      c.put_one.ensures.queue,
    )
