-- Those that an action does not move pass, one after another.
use Rattle.choice_step.proofs.Vocabulary.{◌≡◌, ◌∙◌, ◌<◌, List, ◌∷◌, Contains, ap, arith, drop, inl, inr, length, refl, sym, subst, ⊎_elim, first_or_later, Instance, LiteralKind, NameId, Plan}
use Rattle.sleepers.specs.declared.entries.Entry.{Entry}
use Rattle.obligations.specs.machine.MovedPlans.{IsUnmovedOf}
use Rattle.pending.specs.machine.AskedEntries.{AskingList, IsFirstAhead, PassesFirst}
use Rattle.choice_step.specs.machine.StillToAsk.{PassesUnmoved}

module _ (plans : List Plan) (kind : LiteralKind) (name : NameId) where
  pub passed_none : (asking : AskingList) → PassesUnmoved plans kind name asking asking
  passed_none asking = record { all = refl; ahead = λ x there. inl there; asked = λ x there. there }

  pub passed_more : (first before after : AskingList) (i : Instance) → PassesUnmoved plans kind name first before → IsFirstAhead before i → PassesFirst before after
      → IsUnmovedOf plans kind name i → PassesUnmoved plans kind name first after
  passed_more first before after i was at passes unmoved = record {
    all = passes.all ∙ was.all;
    ahead = λ x there. ⊎_elim
        (λ ahead. ⊎_elim
        (λ same. inr (
          subst (λ (y : Entry Instance). Contains after.asked y) same (passes.first at.entry (at.ahead ∙ ap (λ (l : List (Entry Instance)). at.entry ∷ l) (sym passes.ahead))),
          subst (λ (y : Entry Instance). IsUnmovedOf plans kind name y.item) same (subst (IsUnmovedOf plans kind name) (sym at.is) unmoved),
        ))
        (λ on. inl (subst (λ (l : List (Entry Instance)). Contains l x) (sym passes.ahead) on))
        (first_or_later x at.entry (drop 1 before.ahead) (subst (λ (l : List (Entry Instance)). Contains l x) at.ahead ahead)))
        (λ asked. inr (passes.kept x asked.0, asked.1))
        (was.ahead x there);
    asked = λ x there. passes.kept x (was.asked x there);
  }

-- and each time one fewer is left to be asked
pub fewer_ahead : (before after : AskingList) (i : Instance) → IsFirstAhead before i → PassesFirst before after → length after.ahead < length before.ahead
fewer_ahead before after i at passes =
    let many : length before.ahead ≡ length (at.entry ∷ drop 1 before.ahead) = ap (λ (l : List (Entry Instance)). length l) at.ahead in
    let left : length after.ahead ≡ length (drop 1 before.ahead) = ap (λ (l : List (Entry Instance)). length l) passes.ahead in
    omega (arith, many, left)
