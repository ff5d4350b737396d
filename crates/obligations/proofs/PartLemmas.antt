-- What a pending instance misses is what a part of its node misses.
use Rattle.obligations.proofs.Vocabulary.{◌≡◌, ℕ, Bool, false, List, refl, sym, subst, inl, inr, Step, Plan, EventuallyPlan, AlwaysPlan, UntilPlan, NextPlan, CanAskPlan, IsNowOf, guards_now, LacksSome}
use Rattle.obligations.proofs.Vocabulary.{IsInWindow, IsNowIn, AsksPart, Instance, Now}
use Rattle.std.specs.Prelude.{IsTrue}
use Rattle.obligations.proofs.WantedLiteralLemmas.{in_body, in_left, in_right}

module _ (now : Now) (i : Instance) where
  pub in_window_now : (trace : List Step) → IsNowOf now trace → IsInWindow i now.time → IsNowIn trace i
  in_window_now trace is within = subst (IsInWindow i) (sym is.time) within

  pub asks_eventually : (node place low high : ℕ) (body : Plan) → CanAskPlan (guards_now now) (EventuallyPlan node place low high body) i.valuation
      → (forced : Bool) → IsTrue forced → AsksPart now (EventuallyPlan node place low high body) i forced body
  asks_eventually node place low high body can forced is_forced = subst (λ b. AsksPart now (EventuallyPlan node place low high body) i b body) (sym is_forced) (record {
    misses = λ trace is literals missing. missing;
    inside = in_body (EventuallyPlan node place low high body) body;
    can = record { scope = can.scope; can = can.can.1; fits = can.fits };
    has = refl;
  })

  pub asks_next : (node place high : ℕ) (body : Plan) → CanAskPlan (guards_now now) (NextPlan node place high body) i.valuation
      → (forced : Bool) → AsksPart now (NextPlan node place high body) i forced body
  asks_next node place high body can forced = record {
    misses = λ trace is literals missing. missing;
    inside = in_body (NextPlan node place high body) body;
    can = record { scope = can.scope; can = can.can.1; fits = can.fits };
    has = refl;
  }

  pub asks_always : (node place low high : ℕ) (body : Plan) → CanAskPlan (guards_now now) (AlwaysPlan node place low high body) i.valuation
      → (forced : Bool) → IsInWindow i now.time → AsksPart now (AlwaysPlan node place low high body) i forced body
  asks_always node place low high body can forced within = record {
    misses = λ trace is literals missing. inl (in_window_now trace is within, missing);
    inside = in_body (AlwaysPlan node place low high body) body;
    can = record { scope = can.scope; can = can.can.1; fits = can.fits };
    has = refl;
  }

  -- in its window, the right side of an until misses something
  abbrev pub MissesRight : Plan → Type 0
  MissesRight right = (trace : List Step) → IsNowOf now trace → IsNowIn trace i → LacksSome trace right i.valuation

  pub told_right : (right : Plan) → ((trace : List Step) → IsNowOf now trace → LacksSome trace right i.valuation) → MissesRight right
  told_right right told trace is inside = told trace is

  pub not_there : (right : Plan) → (IsInWindow i now.time → ⊥) → MissesRight right
  not_there right outside trace is inside = absurd (outside (subst (IsInWindow i) is.time inside))

  pub asks_right : (node place low high : ℕ) (left right : Plan) → CanAskPlan (guards_now now) (UntilPlan node place low high left right) i.valuation
      → MissesRight right → (forced : Bool) → IsTrue forced → AsksPart now (UntilPlan node place low high left right) i forced right
  asks_right node place low high left right can missed forced is_forced = subst (λ b. AsksPart now (UntilPlan node place low high left right) i b right) (sym is_forced) (record {
    misses = λ trace is literals missing. inr (missed trace is, missing);
    inside = in_right (UntilPlan node place low high left right) left right;
    can = record { scope = can.scope; can = can.can.2; fits = can.fits };
    has = inr refl;
  })

  pub asks_left : (node place low high : ℕ) (left right : Plan) → CanAskPlan (guards_now now) (UntilPlan node place low high left right) i.valuation
      → MissesRight right → (forced : Bool) → forced ≡ false → AsksPart now (UntilPlan node place low high left right) i forced left
  asks_left node place low high left right can missed forced not_forced = subst (λ b. AsksPart now (UntilPlan node place low high left right) i b left) (sym not_forced) (record {
    misses = λ trace is literals missing. inr (missed trace is, missing);
    inside = in_left (UntilPlan node place low high left right) left right;
    can = record { scope = can.scope; can = can.can.1; fits = can.fits };
    has = inl refl;
  })
