-- What an instance of each node becomes, by what is asked of its parts.
use Rattle.obligations.proofs.Vocabulary.{◌≡◌, ℕ, true, false, Some, inl, inr, refl, subst, false≢true, none-some, same_Some, Plan, CausePlan, SuppressPlan, Both, Either, TestOr, Guarded}
use Rattle.obligations.proofs.Vocabulary.{EventuallyPlan, AlwaysPlan, UntilPlan, NextPlan, TellsNothing, CanAskPlan, guards_now, WillBecome, awaited_in, IsInWindow, Instance, Now}
use Rattle.obligations.proofs.PartLemmas.{MissesRight, in_window_now}
use Rattle.obligations.proofs.WantedLiteralLemmas.{in_body, in_left, in_right}

module _ (now : Now) (i : Instance) where
  -- the node can be asked for the instance
  abbrev pub CanAskFor : Plan → Type 0
  CanAskFor node = CanAskPlan (guards_now now) node i.valuation

  pub turns_next : (node place high : ℕ) (body : Plan) → CanAskFor (NextPlan node place high body)
      → WillBecome now (NextPlan node place high body) i false false (Some body)
  turns_next node place high body can = record {
    becomes = λ trace is served begun more. more;
    part = record {
      inside = in_body (NextPlan node place high body) body;
      can = record { scope = can.scope; can = can.can.1; fits = can.fits };
    };
    waits = λ stays has. refl;
    has = refl;
  }

  pub turns_eventually : (node place low high : ℕ) (body : Plan) → CanAskFor (EventuallyPlan node place low high body)
      → IsInWindow i now.time → TellsNothing now body i.valuation true
      → WillBecome now (EventuallyPlan node place low high body) i false false (Some body)
  turns_eventually node place low high body can within nothing = record {
    becomes = λ trace is served begun more. inl (in_window_now now i trace is within, nothing trace is, more);
    part = record {
      inside = in_body (EventuallyPlan node place low high body) body;
      can = record { scope = can.scope; can = can.can.1; fits = can.fits };
    };
    waits = λ stays has. refl;
    has = refl;
  }

  pub turns_always : (node place low high : ℕ) (body : Plan) → CanAskFor (AlwaysPlan node place low high body)
      → IsInWindow i now.time → WillBecome now (AlwaysPlan node place low high body) i false true (Some body)
  turns_always node place low high body can within = record {
    becomes = λ trace is served begun more. inr (inl (in_window_now now i trace is within, (begun, more, refl)));
    part = record {
      inside = in_body (AlwaysPlan node place low high body) body;
      can = record { scope = can.scope; can = can.can.1; fits = can.fits };
    };
    waits = λ stays has. refl;
    has = refl;
  }

  pub turns_right : (node place low high : ℕ) (left right : Plan) → CanAskFor (UntilPlan node place low high left right)
      → IsInWindow i now.time → TellsNothing now right i.valuation true
      → WillBecome now (UntilPlan node place low high left right) i false false (Some right)
  turns_right node place low high left right can within nothing = record {
    becomes = λ trace is served begun more. inl (in_window_now now i trace is within, nothing trace is, more);
    part = record {
      inside = in_right (UntilPlan node place low high left right) left right;
      can = record { scope = can.scope; can = can.can.2; fits = can.fits };
    };
    waits = λ stays has. refl;
    has = inr refl;
  }

  pub turns_left : (node place low high : ℕ) (left right : Plan) → CanAskFor (UntilPlan node place low high left right)
      → MissesRight now i right → WillBecome now (UntilPlan node place low high left right) i false true (Some left)
  turns_left node place low high left right can missed = record {
    becomes = λ trace is served begun more. inr (missed trace is, (begun, more, refl));
    part = record {
      inside = in_left (UntilPlan node place low high left right) left right;
      can = record { scope = can.scope; can = can.can.1; fits = can.fits };
    };
    waits = λ stays has. refl;
    has = inl refl;
  }

  -- one that is forced is served
  pub turns_served : (node part : Plan) → awaited_in node ≡ Some part → CanAskFor node → WillBecome now node i true false (Some part)
  turns_served (EventuallyPlan node place low high body) part is can = subst (λ (p : Plan). WillBecome now (EventuallyPlan node place low high body) i true false (Some p))
      (same_Some body part is) (record {
        becomes = λ trace here served begun more. inl ((served refl).0, (served refl).1, more);
        part = record {
          inside = in_body (EventuallyPlan node place low high body) body;
          can = record { scope = can.scope; can = can.can.1; fits = can.fits };
        };
        waits = λ stays has. absurd (false≢true stays);
        has = refl;
      })
  turns_served (UntilPlan node place low high left right) part is can = subst (λ (p : Plan). WillBecome now (UntilPlan node place low high left right) i true false (Some p))
      (same_Some right part is) (record {
        becomes = λ trace here served begun more. inl ((served refl).0, (served refl).1, more);
        part = record {
          inside = in_right (UntilPlan node place low high left right) left right;
          can = record { scope = can.scope; can = can.can.2; fits = can.fits };
        };
        waits = λ stays has. absurd (false≢true stays);
        has = inr refl;
      })
  turns_served (NextPlan node place high body) part is can = subst (λ (p : Plan). WillBecome now (NextPlan node place high body) i true false (Some p))
      (same_Some body part is) (record {
        becomes = λ trace here served begun more. more;
        part = record {
          inside = in_body (NextPlan node place high body) body;
          can = record { scope = can.scope; can = can.can.1; fits = can.fits };
        };
        waits = λ stays has. absurd (false≢true stays);
        has = refl;
      })
  turns_served (AlwaysPlan node place low high body) part is can = absurd (none-some part is)
  turns_served (CausePlan node place name terms) part is can = absurd (none-some part is)
  turns_served (SuppressPlan node place name terms) part is can = absurd (none-some part is)
  turns_served (Both node left right) part is can = absurd (none-some part is)
  turns_served (Either node left right) part is can = absurd (none-some part is)
  turns_served (TestOr node guard test body) part is can = absurd (none-some part is)
  turns_served (Guarded node xs guard test body) part is can = absurd (none-some part is)
