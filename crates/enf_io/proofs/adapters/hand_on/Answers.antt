-- Each turn hands on the front of what is left.
use Rattle.std.proofs.Common.{◌≡◌, ◌-◌, ◌<◌, List, ℕ, [], ◌∷◌, ◌++◌, length, take, drop, arith, ap, sym, subst, ◌∙◌, refl, length-take, length-drop, Vec, Global}
use Rattle.std.proofs.lemmas.List.{drop-drop, take_rest}
use Rattle.std.specs.Io.KnownBytes.{Appends}
use Rattle.enf_io.specs.machine.Adapters.{TakesInTurns, WritesAgain}
use Rattle.enf_io.proofs.HeldBytes.{appends-more, keeps-split, keeps-same, last_call, one_call, turns-more}
use Rattle.enf_io.proofs.adapters.hand_on.Goals as goal

pub loop-written-preserved : goal.loop-written-preserved
loop-written-preserved g c =
    let xs : List ℕ = c.args.held.now.items in
    let h = c.loop-written.invariant in
    let n = c.loop-written.written in
    let count = c.in-Ok.count in
    let w = c.in-Ok.ensures in
    let gives = WritesAgain g.O.WriteOnce.write_gives in
    let bytes = c.deref.result.now in
    let all : bytes ≡ xs = c.deref.ensures.value ∙ ap (λ (v : Vec ℕ Global). v.items) h.same in
    let rest : take (length bytes - n) (drop n bytes) ≡ drop n xs = take_rest bytes n ∙ ap (drop n) all in
    let some : 0 < count = w.seen.some (simp (length-take, length-drop) (omega arith)) in
    let gave = one_call gives c.loop-written.output.writer c.write.new.self.writer (drop n xs) _ count rest w.once in
    let more = turns-more gives c.args.output.now.writer xs h.turns.0 (drop n xs) c.loop-written.output.writer count
    c.write.new.self.writer h.turns.1 some gave in
    record {
      within = let within = simp (length-take, length-drop) at w.seen.within in omega (arith, ap length all);
      same = h.same;
      turns = (
        h.turns.0 ++ count ∷ [],
        subst (λ (left : List ℕ). TakesInTurns gives c.args.output.now.writer xs (h.turns.0 ++ count ∷ []) left c.write.new.self.writer)
            (drop-drop count n xs ∙ ap (λ k. drop k xs) (omega arith)) more,
      );
      bytes = appends-more n count xs _ _ _ h.bytes
          (subst (λ (piece : List ℕ). Appends (g.O.WriteOnce.held c.loop-written.output.writer) (g.O.WriteOnce.held c.write.new.self.writer) (take count piece)) rest w.bytes);
      faults = w.seen.writes ∙ h.faults;
    }
