-- A walk over what is pending.
use Rattle.pending.proofs.Vocabulary.{◌≡◌, ℕ, Bool, true, false, cond, List, [], ◌∷◌, ◌++◌, Contains, ⊎_elim, refl, sym, ap, subst, ◌∙◌, map, append_assoc, AllByRecursion, append-nil}
use Rattle.pending.proofs.Vocabulary.{AllByRecursion-append, first_or_later, here, later, none_in_nil, Plan, HasOneMoreEntry, EntryOutcome, TakesOutEntries, begun_entries, gone_entries, Entry}
use Rattle.pending.proofs.Vocabulary.{Instance, Now, EntryBecomes, WalksEntries, items_of}
use Rattle.pending.proofs.EntryLemmas.{takes_append}

entries_put : (outcomes : List (EntryOutcome Instance)) (o : EntryOutcome Instance) (ahead : List (Entry Instance))
    → map (λ (u : EntryOutcome Instance). u.entry) (outcomes ++ o ∷ []) ++ ahead ≡ map (λ (u : EntryOutcome Instance). u.entry) outcomes ++ o.entry ∷ ahead
entries_put [] o ahead = refl
entries_put (u ∷ outcomes) o ahead = ap (λ l. u.entry ∷ l) (entries_put outcomes o ahead)

gone_put : (outcomes : List (EntryOutcome Instance)) (o : EntryOutcome Instance) → gone_entries (outcomes ++ o ∷ []) ≡ gone_entries outcomes ++ cond o.stays [] (o.entry ∷ [])
gone_put [] o = append-nil (cond o.stays [] (o.entry ∷ []))
gone_put (u ∷ outcomes) o = ap (λ l. cond u.stays [] (u.entry ∷ []) ++ l) (gone_put outcomes o) ∙ sym
    (append_assoc (cond u.stays [] (u.entry ∷ [])) (gone_entries outcomes) (cond o.stays [] (o.entry ∷ [])))

begun_put : (outcomes : List (EntryOutcome Instance)) (o : EntryOutcome Instance) → begun_entries (outcomes ++ o ∷ []) ≡ begun_entries outcomes ++ o.begun
begun_put [] o = append-nil o.begun
begun_put (u ∷ outcomes) o = ap (λ l. u.begun ++ l) (begun_put outcomes o) ∙ sym (append_assoc u.begun (begun_entries outcomes) o.begun)

item_has : (P : Instance → Type 0) (all : List (Entry Instance)) (x : Entry Instance) → AllByRecursion P (items_of all) → Contains all x → P x.item
item_has P [] x each there = absurd (none_in_nil x there)
item_has P (e ∷ all) x each there =
    ⊎_elim (λ same. subst (λ (z : Entry Instance). P z.item) same each.0) (λ on. item_has P all x each.1 on) (first_or_later x e all there)

-- what holds of all holds of those that are ahead
pub ahead_has : (P : Instance → Type 0) (all ahead : List (Entry Instance)) → ((x : Entry Instance) → Contains ahead x → Contains all x) → AllByRecursion P (items_of all)
    → AllByRecursion P (items_of ahead)
ahead_has P all [] inside each = tt
ahead_has P all (x ∷ ahead) inside each =
    (item_has P all x each (inside x (here x ahead)), ahead_has P all ahead (λ y there. inside y (later y x ahead there)) each)

module _ (now : Now) (plans : List Plan) (inserted : Bool) (beginning : ℕ) where
  pub walk_begins : (all first : List (Entry Instance)) → WalksEntries now plans inserted beginning all first all first []
  walk_begins all first = record { outcomes = []; looked_at = refl; each = tt; taken_out = refl; begun_are = refl }

  -- one that stays, or is taken out
  taken_or_kept : (stays : Bool) (x : Entry Instance) (left rest : List (Entry Instance)) → (stays ≡ true → rest ≡ left) → (stays ≡ false → HasOneMoreEntry x rest left)
      → TakesOutEntries (cond stays [] (x ∷ [])) left rest
  taken_or_kept true x left rest keeps goes = keeps refl
  taken_or_kept false x left rest keeps goes = (rest, goes refl, refl)

  pub walk_goes_on : (all first left ahead more : List (Entry Instance)) (o : EntryOutcome Instance) (before rest behind after : List (Entry Instance))
      → WalksEntries now plans inserted beginning all first left before more → before ≡ o.entry ∷ ahead → EntryBecomes now plans inserted beginning o
      → (o.stays ≡ true → rest ≡ left) → (o.stays ≡ false → HasOneMoreEntry o.entry rest left) → behind ≡ ahead → after ≡ more ++ o.begun
      → WalksEntries now plans inserted beginning all first rest behind after
  walk_goes_on all first left ahead more o before rest behind after walks at becomes keeps goes on grown = record {
    outcomes = walks.outcomes ++ o ∷ [];
    looked_at = ap (λ l. map (λ (u : EntryOutcome Instance). u.entry) (walks.outcomes ++ o ∷ []) ++ l) on ∙ entries_put walks.outcomes o ahead
        ∙ ap (λ l. map (λ (u : EntryOutcome Instance). u.entry) walks.outcomes ++ l) (sym at) ∙ walks.looked_at;
    each = AllByRecursion-append (EntryBecomes now plans inserted beginning) walks.outcomes (o ∷ []) walks.each (becomes, tt);
    taken_out = subst (λ (l : List (Entry Instance)). TakesOutEntries l all rest) (sym (gone_put walks.outcomes o))
        (takes_append (gone_entries walks.outcomes) (cond o.stays [] (o.entry ∷ [])) all left rest walks.taken_out (taken_or_kept o.stays o.entry left rest keeps goes));
    begun_are = grown ∙ ap (λ l. l ++ o.begun) walks.begun_are ∙ sym (begun_put walks.outcomes o);
  }
