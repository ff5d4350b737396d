-- Calls of the outside that were interrupted, one after another.
use Rattle.std.proofs.Common.{◌≡◌, ℕ, ◌+◌, List, [], ◌∷◌, ◌++◌, length, refl, sym, ap, ◌∙◌, subst, Contains, ⊎_elim, arith, length-append}
use Rattle.std.proofs.lemmas.List.Elements.{Contains-push_cases}
use Rattle.std.specs.Io.KnownBytes.{Keeps, ReadConsumes, WriteAppends}
use Rattle.std.specs.Prelude.{Result, Ok, Err, Option, Some, None}
use Rattle.std.specs.declared.io.Error.{Error}
use Rattle.enf_io.specs.declared.adapters.TheConstants.{MOST_INTERRUPTS}
use Rattle.enf_io.specs.machine.Adapters.{AreInterrupted, DoneAgain, WasInterrupted}
use Rattle.enf_io.proofs.HeldBytes.{keeps-same}

-- so many calls, and nothing was done
pub record InterruptedSoFar {O : Type 0} (Alike : List ℕ → Type 0) (gives : O → List ℕ → Result ℕ Error → O → Type 0) (known left : Option (List ℕ))
    (first now : O) (count : ℕ) : Type 0 where
  pub passed : List (List ℕ)
  pub interrupted : AreInterrupted gives passed first now
  pub alike : (other : List ℕ) → Contains passed other → Alike other
  pub many : length passed ≡ count
  pub kept : Keeps known left

interrupted-more : {O : Type 0} (gives : O → List ℕ → Result ℕ Error → O → Type 0) (first : O) (passed : List (List ℕ)) (bytes : List ℕ) (before : O)
    (answer : Result ℕ Error) (after : O) → AreInterrupted gives passed first before → WasInterrupted answer → gives before bytes answer after
    → AreInterrupted gives (passed ++ bytes ∷ []) first after
interrupted-more gives first [] bytes before answer after all was gave =
    (answer, after, was, subst (λ o. gives o bytes answer after) all gave, refl)
interrupted-more gives first (x ∷ passed) bytes before answer after all was gave =
    (all.0, all.1, all.2, all.3, interrupted-more gives all.1 passed bytes before answer after all.4 was gave)

keeps-on : (first before after : Option (List ℕ)) → Keeps first before → Keeps before after → Keeps first after
keeps-on None before after one two = tt
keeps-on (Some x) None after one two = absurd one
keeps-on (Some x) (Some y) None one two = absurd two
keeps-on (Some x) (Some y) (Some z) one two = two ∙ one

pub none_yet : {O : Type 0} (Alike : List ℕ → Type 0) (gives : O → List ℕ → Result ℕ Error → O → Type 0) (known : Option (List ℕ)) (first : O)
    → InterruptedSoFar Alike gives known known first first 0
none_yet Alike gives known first = record { passed = []; interrupted = refl; alike = λ other there. let below = there.1 in absurd (omega (arith, below)); many = refl; kept = keeps-same known }

module _ {O : Type 0} (Alike : List ℕ → Type 0) (gives : O → List ℕ → Result ℕ Error → O → Type 0) (known left : Option (List ℕ)) (first now after : O) (count : ℕ)
    (so_far : InterruptedSoFar Alike gives known left first now count) (bytes : List ℕ) (answer : Result ℕ Error) (gave : gives now bytes answer after) where
  -- one call more that was interrupted
  pub one_more_passed : (left' : Option (List ℕ)) → Alike bytes → WasInterrupted answer → Keeps left left' → InterruptedSoFar Alike gives known left' first after (count + 1)
  one_more_passed left' like was kept = record {
    passed = so_far.passed ++ bytes ∷ [];
    interrupted = interrupted-more gives first so_far.passed bytes now answer after so_far.interrupted was gave;
    alike = λ other there. ⊎_elim (λ on. so_far.alike other on) (λ same. subst Alike same like) (Contains-push_cases so_far.passed bytes other there);
    many = length-append so_far.passed (bytes ∷ []) ∙ ap (λ n. n + 1) so_far.many;
    kept = keeps-on known left left' so_far.kept kept;
  }

  -- the call that is the last
  pub done_again : (WasInterrupted answer → count ≡ MOST_INTERRUPTS) → DoneAgain Alike gives first bytes answer after
  done_again often = record {
    passed = so_far.passed;
    between = now;
    interrupted = so_far.interrupted;
    alike = so_far.alike;
    called = gave;
    often = λ was. so_far.many ∙ often was;
  }

-- an interrupted call did nothing
pub read_kept : (old new : Option (List ℕ)) (answer : Result ℕ Error) (buf : List ℕ) → WasInterrupted answer → ReadConsumes old new answer buf → Keeps old new
read_kept old new (Ok n) buf was reads = absurd was
read_kept old new (Err e) buf was reads = reads

pub write_kept : (old new : Option (List ℕ)) (answer : Result ℕ Error) (bytes : List ℕ) → WasInterrupted answer → WriteAppends old new answer bytes → Keeps old new
write_kept old new (Ok n) bytes was writes = absurd was
write_kept old new (Err e) bytes was writes = writes

-- what is done after calls that did nothing
pub reads_after : (first old new : Option (List ℕ)) (answer : Result ℕ Error) (buf : List ℕ) → Keeps first old → ReadConsumes old new answer buf → ReadConsumes first new answer buf
reads_after first old new (Err e) buf kept reads = keeps-on first old new kept reads
reads_after None old new (Ok n) buf kept reads = (tt, reads.1)
reads_after (Some x) None new (Ok n) buf kept reads = absurd kept
reads_after (Some x) (Some y) new (Ok n) buf kept reads = subst (λ l. ReadConsumes {E = Error} (Some l) new (Ok n) buf) kept reads

pub writes_after : (first old new : Option (List ℕ)) (answer : Result ℕ Error) (bytes : List ℕ) → Keeps first old → WriteAppends old new answer bytes → WriteAppends first new answer bytes
writes_after first old new (Err e) bytes kept writes = keeps-on first old new kept writes
writes_after None old new (Ok n) bytes kept writes = tt
writes_after (Some x) None new (Ok n) bytes kept writes = absurd kept
writes_after (Some x) (Some y) new (Ok n) bytes kept writes = subst (λ l. WriteAppends {E = Error} (Some l) new (Ok n) bytes) kept writes
