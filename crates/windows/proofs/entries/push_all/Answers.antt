use Rattle.windows.proofs.Vocabulary.{◌≡◌, ◌∙◌, ◌⊎◌, ◌↔◌, List, [], ◌∷◌, true, inl, ⊎_elim, map, Contains, ap, cond, subst, none_in_nil, sym, kept_entries, Value, ℕ}
use Rattle.windows.specs.machine.RowTimes.{is_some_time}
use Rattle.windows.proofs.TimeLemmas.{none_at}
use Rattle.windows.proofs.EntryLemmas.{moves_on}
use Rattle.windows.proofs.entries.push_all.Goals as goal

-- an entry with times, and one without
first_kept : (left next : List (List Value × List ℕ)) (e : List Value × List ℕ) → left ≡ e ∷ next → is_some_time e.1 ≡ true → map (λ x. x.0) (kept_entries left) ≡ e.0 ∷ map (λ x. x.0) (kept_entries next)
first_kept left next e is some = ap (λ l. map (λ x. x.0) (kept_entries l)) is ∙ ap (λ b. map (λ x. x.0) (cond b (e ∷ kept_entries next) (kept_entries next))) some

first_gone : (left next : List (List Value × List ℕ)) (e : List Value × List ℕ) → left ≡ e ∷ next → e.1 ≡ [] → map (λ x. x.0) (kept_entries left) ≡ map (λ x. x.0) (kept_entries next)
first_gone left next e is none = ap (λ l. map (λ x. x.0) (kept_entries l)) is ∙ ap (λ ts. map (λ x. x.0) (cond (is_some_time ts) (e ∷ kept_entries next) (kept_entries next))) none

pub loop-row-preserved-in_ok-push : goal.loop-row-preserved-in_ok-push
loop-row-preserved-in_ok-push c =
    moves_on (λ row. Contains c.args.out.now.items row ⊎ Contains (map (λ e. e.0) (kept_entries c.args.entries.now.entries)) row) c.in-Some.row.now
    (map (λ e. e.0) (kept_entries c.loop-row.row-iterator)) (map (λ e. e.0) (kept_entries c.next.new.self))
    c.loop-row.out.items c.push.new.self.items
    c.in_ok-duplicate.field-0
    (first_kept c.loop-row.row-iterator c.next.new.self (c.in-Some.row.now, c.in-Some.times.now) c.in-Some.ensures.steps
    (sym c.has_time.ensures ∙ c.if-has_time.true))
    c.in_ok-duplicate.ensures c.in_ok-push.ensures.items c.loop-row.invariant

pub loop-row-preserved : goal.loop-row-preserved
loop-row-preserved c = subst (λ l. (row : List Value) → (Contains c.loop-row.out.items row ⊎ Contains l row)
    ↔ (Contains c.args.out.now.items row ⊎ Contains (map (λ e. e.0) (kept_entries c.args.entries.now.entries)) row))
    (first_gone c.loop-row.row-iterator c.next.new.self (c.in-Some.row.now, c.in-Some.times.now) c.in-Some.ensures.steps (none_at c.in-Some.times.now (sym c.has_time.ensures ∙ c.if-has_time.false))) c.loop-row.invariant

pub returns : goal.returns
returns c = λ row. (
  λ there. (c.loop-row.invariant row).0 (inl there),
  λ all. ⊎_elim (λ there. there) (λ left. absurd (none_in_nil row (subst (λ l. Contains (map (λ e. e.0) (kept_entries l)) row) c.in-None.ensures.steps.0 left))) ((c.loop-row.invariant row).1 all),
)
