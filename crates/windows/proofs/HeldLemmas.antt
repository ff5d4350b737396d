-- What a list of steps holds, step by step.
use Rattle.windows.proofs.Vocabulary.{◌≡◌, ◌↔◌, ◌⊎◌, inl, inr, ⊎_elim, ℕ, ◌-◌, List, [], ◌∷◌, ◌++◌, length, All, refl, sym, ap, subst, arith, length-append, append_assoc, ◌∙◌, All-push, All-nil}
use Rattle.windows.proofs.Vocabulary.{All-contains, Contains-append_right, IsIn, Valuation, all_front, HasValuation, IsHeld, CommittedStep, NothingAtFirst, OneStepMore}

-- where two lists one after the other are split at an item: in the first, or in the second
split_joined : {X : Type 0} (xs ys before after : List X) (y : X) → xs ++ ys ≡ before ++ y ∷ after
    → ((middle : List X) × (xs ≡ before ++ y ∷ middle) × (after ≡ middle ++ ys)) ⊎ ((middle : List X) × (before ≡ xs ++ middle) × (ys ≡ middle ++ y ∷ after))
split_joined [] ys before after y e = inr (before, refl, e)
split_joined (x ∷ xs) ys [] after y e = inl (xs, cc, cc)
split_joined (x ∷ xs) ys (b ∷ bs) after y e =
    let heads : x ≡ b = cc in
    ⊎_elim (λ first. inl (first.0, (λ i. heads i ∷ first.1 i), first.2))
    (λ second. inr (second.0, (λ i. sym heads i ∷ second.1 i), second.2)) (split_joined xs ys bs after y (cc))

single_split : {X : Type 0} (middle after : List X) (x y : X) → x ∷ [] ≡ middle ++ y ∷ after → (x ≡ y) × (middle ≡ []) × (after ≡ [])
single_split [] after x y e = (cc, refl, cc)
single_split (m ∷ middle) after x y e = absurd (omega (arith, ap length e, length-append middle (y ∷ after)))

pub none_held : (C : ℕ → Type 0) (v : Valuation) → IsHeld C [] v → ⊥
none_held C v h = omega (arith, ap length h.split, length-append h.before (h.step ∷ h.after))

held_from : (C : ℕ → Type 0) (steps : List CommittedStep) (step : CommittedStep) (v : Valuation)
    → IsHeld C (steps ++ step ∷ []) v → (C step.time × HasValuation step.right v) ⊎ (IsHeld C steps v × HasValuation step.surviving v)
held_from C steps step v h =
    ⊎_elim
    (λ earlier.
    let survives : All (λ later. HasValuation later.surviving v) (earlier.0 ++ step ∷ []) = subst (All (λ later. HasValuation later.surviving v)) earlier.2 h.survives in
    inr (
      record {
        before = h.before;
        step = h.step;
        after = earlier.0;
        split = earlier.1;
        counts = h.counts;
        right = h.right;
        survives = all_front (λ later. HasValuation later.surviving v)
            earlier.0 (step ∷ []) survives;
      },
      All-contains (λ later. HasValuation later.surviving v) (earlier.0 ++ step ∷ []) step survives (Contains-append_right earlier.0 (step ∷ []) step (0, omega arith, refl)),
    ))
    (λ last. inl (subst (λ s. C s.time × HasValuation s.right v) (sym (single_split last.0 h.after step h.step last.2).0) (h.counts, h.right)))
    (split_joined steps (step ∷ []) h.before h.after h.step h.split)

held_by : (C : ℕ → Type 0) (steps : List CommittedStep) (step : CommittedStep) (v : Valuation)
    → (C step.time × HasValuation step.right v) ⊎ (IsHeld C steps v × HasValuation step.surviving v) → IsHeld C (steps ++ step ∷ []) v
held_by C steps step v either =
    ⊎_elim (λ now. record { before = steps; step = step; after = []; split = refl; counts = now.0; right = now.1; survives = All-nil _ })
    (λ earlier. let h = earlier.0 in record {
      before = h.before;
      step = h.step;
      after = h.after ++ step ∷ [];
      split = ap (λ l. l ++ step ∷ []) h.split ∙ append_assoc h.before (h.step ∷ h.after) (step ∷ []);
      counts = h.counts;
      right = h.right;
      survives = All-push (λ later. HasValuation later.surviving v) h.after step h.survives earlier.1;
    })
    either

pub held_more : (C : ℕ → Type 0) (steps : List CommittedStep) (step : CommittedStep) (v : Valuation)
    → IsHeld C (steps ++ step ∷ []) v ↔ ((C step.time × HasValuation step.right v) ⊎ (IsHeld C steps v × HasValuation step.surviving v))
held_more C steps step v = (held_from C steps step v, held_by C steps step v)

pub nothing_at_first : NothingAtFirst
nothing_at_first interval time v = none_held (λ earlier. IsIn interval (time - earlier)) v

pub one_step_more : OneStepMore
one_step_more interval time steps step v = held_more (λ earlier. IsIn interval (time - earlier)) steps step v
