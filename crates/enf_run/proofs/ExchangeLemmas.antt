-- What is taken and given, one call after another.
use Rattle.enf_run.proofs.Vocabulary.{◌≡◌, ℕ, ◌+◌, ◌<◌, ◌≤◌, List, [], ◌∷◌, ◌++◌, length, take, map, refl, sym, ap, subst, ◌∙◌, append_assoc, length-append, Option, None, Some, arith, option_map}
use Rattle.enf_run.proofs.Vocabulary.{append-nil, map-append, All-nil, Exchange, input_left, OfCalls, taken_bytes, Gave, with_given, GrewWhereTold, TookNothing, Took, with_read_mark, with_taken}
use Rattle.enf_run.proofs.Vocabulary.{MarksWithin, AtEachMark-given, AtEachMark-mark, GrewWhereTold-gave, GrewWhereTold-marked, GrewWhereTold-refl, GrewWhereTold-took, GrewWhereTold-trans}
use Rattle.enf_run.proofs.Vocabulary.{OfCalls-MarksWithin, OfCalls-gave, OfCalls-marked, OfCalls-none, OfCalls-took, OfCalls-weaker, taken_bytes-taken, AreInPieces, Exchanged, IsReadBegun, IsExchange}
use Rattle.enf_run.proofs.Vocabulary.{CountsRise, taken_counts, most_read_bytes, most_log_bytes}

pub gave_none : (a : Option Exchange) → Gave [] a a
gave_none None = refl
gave_none (Some x) = ap Some (λ i. record { input = x.input; taken = x.taken; given = sym (append-nil x.given) i; marks = x.marks })

pub gave_more : (xs ys : List ℕ) (a b c : Option Exchange) → Gave xs a b → Gave ys b c → Gave (xs ++ ys) a c
gave_more xs ys None b c s t = t ∙ ap (option_map (with_given ys)) s
gave_more xs ys (Some x) b c s t =
    t ∙ ap (option_map (with_given ys)) s ∙ ap Some (λ i. record { input = x.input; taken = x.taken; given = append_assoc x.given xs ys i; marks = x.marks })

-- one piece more
pieces_more : (counts : List ℕ) (from to : ℕ) → AreInPieces (counts ++ from ∷ []) → to ≤ from + most_read_bytes → AreInPieces ((counts ++ from ∷ []) ++ to ∷ [])
pieces_more [] from to h l = (l, tt)
pieces_more (a ∷ []) from to h l = (h.0, (l, tt))
pieces_more (a ∷ b ∷ counts) from to h l = (h.0, pieces_more (b ∷ counts) from to h.1 l)

-- so it is of a read
pieces_read : (x : Exchange) (to : ℕ) → AreInPieces (taken_counts x) → to ≤ x.taken + most_read_bytes → AreInPieces (map (λ mark. mark.0) (with_read_mark x).marks ++ to ∷ [])
pieces_read x to h l =
    subst (λ (counts : List ℕ). AreInPieces (counts ++ to ∷ [])) (sym (map-append (λ (mark : ℕ × ℕ). mark.0) x.marks ((x.taken, length x.given) ∷ [])))
    (pieces_more (map (λ (mark : ℕ × ℕ). mark.0) x.marks) x.taken to h l)

-- one number more
rise_more : (counts : List ℕ) (from to : ℕ) → CountsRise (counts ++ from ∷ []) → from < to → CountsRise ((counts ++ from ∷ []) ++ to ∷ [])
rise_more [] from to h l = (l, tt)
rise_more (a ∷ []) from to h l = (h.0, (l, tt))
rise_more (a ∷ b ∷ counts) from to h l = (h.0, rise_more (b ∷ counts) from to h.1 l)

-- each read so far took something
abbrev pub IsSteady : Option Exchange → Option Exchange → Type 0
IsSteady a b = OfCalls (λ x. CountsRise (taken_counts x)) a b

-- so the reads but a last one did
rising_read : (x : Exchange) → CountsRise (taken_counts x) → CountsRise (map (λ mark. mark.0) (with_read_mark x).marks)
rising_read x h = subst CountsRise (sym (map-append (λ (mark : ℕ × ℕ). mark.0) x.marks ((x.taken, length x.given) ∷ []))) h

-- what holds of the calls holds together
both_of_calls : (A B : Exchange → Type 0) (a b : Option Exchange) → OfCalls A a b → OfCalls B a b → OfCalls (λ x. A x × B x) a b
both_of_calls A B None b s t = tt
both_of_calls A B (Some x) None s t = tt
both_of_calls A B (Some x) (Some y) s t = (s, t)

pub steady_none : (told : Option Exchange) → IsSteady told told
steady_none told = OfCalls-none (λ x. CountsRise (taken_counts x)) told (λ input. tt)

pub steady_took : (bytes : List ℕ) (a b c : Option Exchange) → GrewWhereTold a b → Took bytes b c → 0 < length bytes → IsSteady a b → IsSteady a c
steady_took bytes a b c grew took some h =
    OfCalls-took (λ x. CountsRise (taken_counts x)) bytes a b c grew took
    (OfCalls-weaker (λ x. CountsRise (taken_counts x)) (λ x. take (length bytes) (input_left x) ≡ bytes → CountsRise (taken_counts (with_taken (length bytes) (with_read_mark x)))) a b
    (λ x r next. subst (λ (counts : List ℕ). CountsRise (counts ++ (x.taken + length bytes) ∷ [])) (sym (map-append (λ (mark : ℕ × ℕ). mark.0) x.marks ((x.taken, length x.given) ∷ [])))
    (rise_more (map (λ (mark : ℕ × ℕ). mark.0) x.marks) x.taken (x.taken + length bytes) r (omega (arith, some)))) h)

pub steady_gave : (bytes : List ℕ) (a b c : Option Exchange) → GrewWhereTold a b → Gave bytes b c → IsSteady a b → IsSteady a c
steady_gave bytes a b c grew gave h = OfCalls-gave (λ x. CountsRise (taken_counts x)) bytes a b c grew gave h

module _ (P : List ℕ → List ℕ → Type 0) where
  -- before any call
  pub exchanged_none : (told : Option Exchange) → Exchanged P [] [] told told
  exchanged_none told =
      record {
        limit = omega arith;
        grew = GrewWhereTold-refl told;
        calls = OfCalls-none (IsExchange P [] []) told
            (λ input. record {
              took = refl;
              gave = refl;
              marks = All-nil
                  (λ (mark : ℕ × ℕ). P (take mark.0 input) (take mark.1 []));
              pieces = tt;
              rising = tt;
            });
      }

  module _ (taken given : List ℕ) (a b c : Option Exchange) (e : Exchanged P taken given a b) where
    -- what holds now holds of each exchange that is as it is now
    holds_now : P taken given → (x : Exchange) → IsExchange P taken given x → P (taken_bytes x) x.given
    holds_now now x i = subst (λ (t : List ℕ). P t x.given) (sym i.took) (subst (P taken) (sym i.gave) now)

    -- a read
    pub exchanged_took : P taken given → IsSteady a b → (bytes : List ℕ) → Took bytes b c
        → length bytes ≤ most_read_bytes → length (taken ++ bytes) ≤ most_log_bytes
        → Exchanged P (taken ++ bytes) given a c
    exchanged_took now steady bytes took piece limit =
        record {
          limit = limit;
          grew = GrewWhereTold-trans a b c e.grew (GrewWhereTold-took bytes b c took);
          calls = OfCalls-took (IsExchange P (taken ++ bytes) given) bytes a b c e.grew took
              (OfCalls-weaker (λ x. IsExchange P taken given x × CountsRise (taken_counts x))
              (λ x. take (length bytes) (input_left x) ≡ bytes
              → IsExchange P (taken ++ bytes) given (with_taken (length bytes) (with_read_mark x))) a b
              (λ x h next. record {
                took = taken_bytes-taken (with_read_mark x) bytes next ∙ ap (λ l. l ++ bytes) h.0.took;
                gave = h.0.gave;
                marks = AtEachMark-mark P x (holds_now now x h.0) h.0.marks;
                pieces = pieces_read x (x.taken + length bytes) h.0.pieces (omega (arith, piece));
                rising = rising_read x h.1;
              }) (both_of_calls (IsExchange P taken given) (λ x. CountsRise (taken_counts x)) a b e.calls steady));
        }

    -- a read of nothing
    pub exchanged_ended : P taken given → IsSteady a b → Took [] b c → Exchanged P taken given a c
    exchanged_ended now steady took =
        subst (λ (t : List ℕ). Exchanged P t given a c) (append-nil taken) (exchanged_took now steady [] took (omega arith) (omega (arith, e.limit, ap length (append-nil taken))))

    -- a read that failed
    pub exchanged_marked : P taken given → IsSteady a b → TookNothing b c → Exchanged P taken given a c
    exchanged_marked now steady marked =
        record {
          limit = e.limit;
          grew = GrewWhereTold-trans a b c e.grew (GrewWhereTold-marked b c marked);
          calls = OfCalls-marked (IsExchange P taken given) a b c e.grew marked
              (OfCalls-weaker (λ x. IsExchange P taken given x × CountsRise (taken_counts x)) (λ x. IsExchange P taken given (with_read_mark x)) a b
              (λ x h. record {
                took = h.0.took;
                gave = h.0.gave;
                marks = AtEachMark-mark P x (holds_now now x h.0) h.0.marks;
                pieces = pieces_read x x.taken h.0.pieces (omega arith);
                rising = rising_read x h.1;
              }) (both_of_calls (IsExchange P taken given) (λ x. CountsRise (taken_counts x)) a b e.calls steady));
        }

    -- a write
    pub exchanged_gave : (bytes : List ℕ) → Gave bytes b c → Exchanged P taken (given ++ bytes) a c
    exchanged_gave bytes gave =
        record {
          limit = e.limit;
          grew = GrewWhereTold-trans a b c e.grew (GrewWhereTold-gave bytes b c gave);
          calls = OfCalls-gave (IsExchange P taken (given ++ bytes)) bytes a b c e.grew gave
              (OfCalls-MarksWithin (λ x. IsExchange P taken (given ++ bytes) (with_given bytes x)) a b e.grew
              (OfCalls-weaker (IsExchange P taken given) (λ x. MarksWithin x → IsExchange P taken (given ++ bytes) (with_given bytes x)) a b
              (λ x i within. record {
                took = i.took;
                gave = ap (λ l. l ++ bytes) i.gave;
                marks = AtEachMark-given P x bytes within i.marks;
                pieces = i.pieces;
                rising = i.rising;
              }) e.calls));
        }

    -- a read begins the log
    pub begun_took : (bytes : List ℕ) → Took bytes b c → IsReadBegun a c
    begun_took bytes took =
        OfCalls-took (λ x. 0 < length x.marks) bytes a b c e.grew took
        (OfCalls-weaker (IsExchange P taken given) (λ x. take (length bytes) (input_left x) ≡ bytes → 0 < length (with_taken (length bytes) (with_read_mark x)).marks) a b
        (λ x i next. omega (arith, length-append x.marks ((x.taken, length x.given) ∷ []))) e.calls)

    -- also one that fails
    pub begun_marked : TookNothing b c → IsReadBegun a c
    begun_marked marked =
        OfCalls-marked (λ x. 0 < length x.marks) a b c e.grew marked
        (OfCalls-weaker (IsExchange P taken given) (λ x. 0 < length (with_read_mark x).marks) a b
        (λ x i. omega (arith, length-append x.marks ((x.taken, length x.given) ∷ []))) e.calls)

    -- and it stays begun
    pub begun_gave : (bytes : List ℕ) → Gave bytes b c → IsReadBegun a b → IsReadBegun a c
    begun_gave bytes gave h = OfCalls-gave (λ x. 0 < length x.marks) bytes a b c e.grew gave h
