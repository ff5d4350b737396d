-- `link_before` fills the block, and the nodes beside it point to it. Assumes `Logic`.
use Rattle.cursor_list.proofs.Vocabulary.{◌≡◌, refl, sym, ap, subst, ◌∙◌, ℕ, ◌+◌, ◌<◌, ◌^◌, arith, List, [], ◌∷◌, ◌++◌, append_assoc, map-append, length, length-append, take, Ura, Fn, named, ty_ptr}
use Rattle.cursor_list.proofs.Vocabulary.{w64, inst_fn, Val, vint, vptr, vunit, SProp, ent, sep, Lft, GName, Share, ftrue, froom, flft, fobs, fbor, Env, Calls, Loops, WpFn, Tables, Logic, fact}
use Rattle.cursor_list.proofs.Vocabulary.{tables, WpFn-mono, Item, ⋆, ‵, ◌⊛◌, at_ret, ◌$◌, ◌∵◌, !, qed, by, move, keep, use1, use2, split, join, group, rewrite, fsplit, fsplit3, fjoin, fjoin3, feq_i}
use Rattle.cursor_list.proofs.Vocabulary.{feq_l, suffices, frame, done, whole, sub, agg, look_in, store_in, look, store, init, stop, fld, load, lit, unit_lit, of_opd, bin, and_then, no_more, assigns}
use Rattle.cursor_list.proofs.Vocabulary.{assigns_last, first, blocks, exec, returns, enter, alloc_all, pass_all, free_all, look_at, get, get_in, through, sets, is, env, Body as Borrowed, yes, no}
use Rattle.cursor_list.proofs.Vocabulary.{RattleType, owns, mem, lone, Ptr, block_ptr, ptr_val, MutBor, MutRef, RefMutOf, unit, usize, plain, nothing, spared, Clauses, Ended, closing, on_entry, Meets}
use Rattle.cursor_list.proofs.Vocabulary.{triple_of, entered, run_framed, needs, Stays, stay_dropped, stay_ref, walk_of, ends_at, Goes-dropped, Goes-ref, walk_Meets, after, Good, Ptr-Good, word}
use Rattle.cursor_list.proofs.Vocabulary.{word-Good, as_fields, α, token, Fits, Goes-blank, as_written, Bx, args, X, τ, own, R, P, el_tells, Vacant, vacant_val, vacant_typed, Vacant-had, word_had}
use Rattle.cursor_list.proofs.Vocabulary.{cut_at, Place, Link, links_of, place_of, IsChained, IsChained-had, node_val, Hd, block_ty, Held, One, cons_out, cons_in, append_in, one_opens, one_closes}
use Rattle.cursor_list.proofs.Vocabulary.{node_made, KeepsPlaces}
use lib.ListN.{drop}
use contract.Running.{tables_of}
use Rattle.cursor_list.specs.contracts.nodes.Nodes.link_before.Key.{name as #self}
use Rattle.cursor_list.proofs.Kept.{Around, around, here_at, keeps_through}
use Rattle.cursor_list.proofs.Chained.{IsChained-between}
use Rattle.cursor_list.proofs.Memory.{append_out, says_both, D, Nr, nodes_opens, nodes_closes}
use Rattle.cursor_list.specs.contracts.nodes.Place as Pl
use Rattle.cursor_list.specs.contracts.nodes.Node as Block
use Rattle.cursor_list.proofs.nodes.Nodes.link_before.Statement as stated
use Rattle.cursor_list.proofs.nodes.Nodes.link_before.Code as code

module _ (E : Bx) where
  abbrev function : Fn
  function = inst_fn (args E) code.function

  abbrev Node : RattleType
  Node = Block.the_row (R E) (P E)

  abbrev Room : RattleType
  Room = Vacant E.al Node

  abbrev ended : Ended
  ended = record {
    signature = record {
      lifetimes = 1;
      outlives = [];
      params = RefMutOf (0 ∷ []) tt (plain (λ _. Nr E)) (λ _. tt) ∷ plain (λ _. Pl.the_row) ∷ plain (λ _. usize) ∷ plain
          (λ _. Room) ∷ plain (λ _. R E) ∷ [];
      result = plain (λ _. unit);
    };
    kept = (yes, (no, (no, (no, (no, tt)))));
  }

  abbrev stayed : Stays ended.signature.params ended.kept
  stayed = (
    stay_ref (0 ∷ []) tt (plain (λ _. Nr E)),
    (
      stay_dropped (plain (λ _. Pl.the_row)) no,
      (stay_dropped (plain (λ _. usize)) no, (stay_dropped (plain (λ _. Room)) no, (stay_dropped (plain (λ _. R E)) no, tt))),
    ),
  )

  abbrev Asks : D E → Place → ℕ → Type 0
  Asks d at i = (0 < i) × (i < d.len) × (d.len + 1 < 2 ^ 63) × (at.ptr ≡ place_of (links_of d.blocks) i)

  abbrev Gives : D E → ℕ → X E → D E → Type 0
  Gives d i x e = e.items ≡ take i d.items ++ x ∷ drop i d.items

  abbrev Keeps : D E → ℕ → D E → Type 0
  Keeps d i e = KeepsPlaces i (links_of d.blocks) (links_of e.blocks)

  abbrev spec : {M : Type 1} {𝓤 : Ura M} (𝓛 : Logic 𝓤) → Clauses 𝓤 ended
  spec {𝓤 = 𝓤} 𝓛 κs a = record {
    ghost = Unit {0};
    requires = λ _. fact 𝓤 (Asks a.0.now a.1.0 a.1.1.0);
    ensures = λ _ r w. sep 𝓤 (fact 𝓤 (Gives a.0.now a.1.1.0 a.1.1.1.1.0 w.0.now)) (fact 𝓤 (Keeps a.0.now a.1.1.0 w.0.now));
  }

module _ (E : Bx) {M : Type 1} {𝓤 : Ura M} (𝓛 : Logic 𝓤) (C : Calls 𝓤 𝓛.H) (Λ : Loops 𝓤 𝓛.H) (κ : Lft) (q : Share) (rb ro : ℕ) (γ : GName) (d : D E) (at : Place)
    (i : ℕ) (room : (Room E).Denot) (x : X E) (ps us ks rs vs : List Val) where
  open 𝓛 use {H, A}

  abbrev self : MutBor (D E)
  self = record { ref_ptr = (rb, ro); ghost_name = γ; now = d }

  abbrev bound : (walk_of 𝓛 (ended E) (stayed E) (spec E 𝓛)).Ghost
  bound = (((κ, tt), (q, tt), tt, (self, (at, (i, (room, (x, tt))))), (ps, (us, (ks, (rs, (vs, tt)))))), tt)

  abbrev Post : Val → SProp 𝓤
  Post = (walk_of 𝓛 (ended E) (stayed E) (spec E 𝓛)).post bound

  abbrev h : Hd E
  h = room.alloc

  exits : ps ≡ vptr rb ro ∷ [] → (new : D E) → Gives E d i x new → Keeps E d i new → ent 𝓤
      (sep 𝓤 (A.obs γ ((Nr E).coded.code new)) (sep 𝓤 (A.bor κ (Borrowed (mem (Nr E)) rb ro γ)) (A.lft κ q))) (Post vunit)
  exits passed new e kept =
      qed 𝓛 (‵ (fobs γ ((Nr E).coded.code new)) ∷ ‵ (fbor κ (Borrowed (mem (Nr E)) rb ro γ)) ∷ ‵ (flft κ q) ∷ []) ∵
      suffices ! _ (ends_at 𝓛 (ended E) (stayed E) (spec E 𝓛) bound vunit tt (new, (tt, (tt, ((tt, (tt, tt)), (tt, tt))))) (tt, (tt, (tt, (tt, (tt, tt)))))) $ says_both ! e kept $
      nothing ! $ move ! (3 ∷ 0 ∷ []) $ join ! $ frame ! $ feq_i ! (List Val) ps (vptr rb ro ∷ []) passed $ fjoin3 ! $ nothing ! $ nothing ! $ fjoin ! $ nothing ! $ fjoin ! $ nothing
      ! $ fjoin ! $ nothing ! $ fjoin ! $ move ! (1 ∷ 0 ∷ []) $ fjoin ! $
      feq_i ! (List Val) (vunit ∷ []) (vunit ∷ []) refl $ move ! (1 ∷ 0 ∷ []) $ done !

  abbrev Had : ℕ → ℕ → Val → Val → List (Item 𝓤)
  Had b o hv v = ‵ (fobs γ ((Nr E).coded.code d)) ∷ ‵ (fbor κ (Borrowed (mem (Nr E)) rb ro γ)) ∷ ‵ (flft κ q)
      ∷ ‵ (froom (block_ty E) b o) ∷ ‵ (token E.al h (block_ty E) (block_ptr b o)) ∷ ‵ (E.al.row.own_val h (hv ∷ [])) ∷ ‵ (own E x (v ∷ [])) ∷ []

  walk : ps ≡ vptr rb ro ∷ [] → Asks E d at i → (b o : ℕ) (hv v : Val) → Fits E.al hv → Good (τ E) v
      → ent 𝓤 (⋆ 𝓛 (Had b o hv v)) (WpFn 𝓤 H C Λ (function E) (vptr rb ro ∷ word at.ptr ∷ vint w64 i ∷ vacant_val hv b o ∷ v ∷ []) Post)
  walk passed asked b o hv v fa good =
      let ok = d.ok in
      let some = asked.0 in
      let within = asked.1 in
      let few = asked.2 in
      let p : Ptr = block_ptr b o in
      let typed : (n m : Ptr) → Good (lone (Node E).mir) (node_val n m v hv) = λ n m. as_fields (ty_ptr ∷ ty_ptr ∷ τ E ∷ α E.al ∷ [])
      (ptr_val n ∷ ptr_val m ∷ v ∷ hv ∷ []) (Ptr-Good n, (Ptr-Good m, (good, (fa, tt)))) in
      let counts : i < 2 ^ 64 = omega arith in
      let fits : d.len < 2 ^ 64 = omega arith in
      let more : d.len + 1 < 2 ^ 64 = omega arith in
      let bs : Around d.blocks i = around d.blocks i some (omega arith) in
      let xs : Around d.items i = around d.items i some (omega arith) in
      let ns = bs.front in
      let l = bs.left in
      let m = bs.here in
      let ms = bs.back in
      let long = ap length bs.is ∙ length-append ns (l ∷ m ∷ ms) in
      let many = ap length xs.is ∙ length-append xs.front (xs.left ∷ xs.here ∷ xs.back) in
      let far = bs.far in
      let far_too = xs.far in
      let alike : length ns ≡ length xs.front = omega arith in
      let rest : length ms ≡ length xs.back = omega arith in
      let here : at.ptr ≡ m.0.0 = asked.3 ∙ ap (λ ks. place_of (links_of ks) i) bs.is ∙ here_at l m ms ns i far in
      let linked : IsChained d.head d.tail (links_of ns ++ l.0 ∷ m.0 ∷ links_of ms) = subst (IsChained d.head d.tail) (ap links_of bs.is ∙ map-append (λ n. n.0) ns (l ∷ m ∷ ms))
      (IsChained-had _ _ _ d.chained) in
      qed 𝓛 (Had b o hv v) ∵ enter ! C Λ (function E) (vptr rb ro ∷ word at.ptr ∷ vint w64 i ∷ vacant_val hv b o ∷ v ∷ []) _ $
      alloc_all ! (λ ls. pass_all ! refl ((tt, tt), (word-Good Pl.the_type.name at.ptr, ((tt, record { fits = counts }), (vacant_typed E.al (Node E) hv b o fa, (good, tt))))) $
      let En : Env 𝓤 H = env (function E).locals ls in
      nodes_opens E ! tt d rb ro $
      rewrite ! 0 (λ (ks : List (Link × Hd E)). ‵ (Held E ks d.items)) bs.is refl $ rewrite ! 0 (λ (ys : List (X E)). ‵ (Held E (ns ++ l ∷ m ∷ ms) ys)) xs.is refl $
      use1 𝓛 (‵ (Held E ns xs.front) ⊛ ‵ (Held E (l ∷ m ∷ ms) (xs.left ∷ xs.here ∷ xs.back)))
      (append_out E 𝓛 ns (l ∷ m ∷ ms) xs.front (xs.left ∷ xs.here ∷ xs.back) alike) $ split ! $ move ! (1 ∷ []) $
      use1 𝓛 (‵ (One E l xs.left) ⊛ ‵ (Held E (m ∷ ms) (xs.here ∷ xs.back))) (cons_out E 𝓛 l (m ∷ ms) xs.left (xs.here ∷ xs.back)) $ split ! $ move ! (1 ∷ []) $
      use1 𝓛 (‵ (One E m xs.here) ⊛ ‵ (Held E ms xs.back)) (cons_out E 𝓛 m ms xs.here xs.back) $ split ! $
      one_opens E ! m.0 m.1 xs.here (λ mb mo me. move ! (5 ∷ []) $ one_opens E ! l.0 l.1 xs.left (λ lb lo le.
      let a : Ptr = block_ptr lb lo in
      let c : Ptr = block_ptr mb mo in
      let between = IsChained-between d.head d.tail p (links_of ns) (a, l.0.1, l.0.2) (c, m.0.1, m.0.2) (links_of ms)
      (subst (λ (z : Ptr × Ptr). IsChained d.head d.tail (links_of ns ++ (z.0, l.0.1, l.0.2) ∷ (z.1, m.0.1, m.0.2) ∷ links_of ms)) (λ j. (le j, me j)) linked) in
      let was : Link × Hd E = ((a, p, l.0.2), l.1) in
      let now : Link × Hd E = ((p, c, a), h) in
      let on : Link × Hd E = ((c, m.0.1, p), m.1) in
      let linked_all = ns ++ was ∷ now ∷ on ∷ ms in
      let every = xs.front ++ xs.left ∷ x ∷ xs.here ∷ xs.back in
      let still = length-append ns (was ∷ now ∷ on ∷ ms) in
      let same = length-append xs.front (xs.left ∷ x ∷ xs.here ∷ xs.back) in
      let new : D E = record {
        head = d.head;
        tail = d.tail;
        len = d.len + 1;
        items = every;
        blocks = linked_all;
        ok = (omega arith, omega arith);
        small = few;
        chained = ∣ subst (IsChained d.head d.tail) (sym (map-append (λ n. n.0) ns (was ∷ now ∷ on ∷ ms))) between.0 ∣₁;
      } in
      let kept : Keeps E d i new = subst (λ (ks : List (Link × Hd E)). KeepsPlaces i (links_of ks) (links_of linked_all)) (sym bs.is)
      (keeps_through ns l was (m ∷ ms) (now ∷ on ∷ ms) i (sym le) (omega arith)) in
      let cut = cut_at (xs.front ++ xs.left ∷ []) (xs.here ∷ xs.back) d.items i (append_assoc xs.front (xs.left ∷ []) (xs.here ∷ xs.back) ∙ sym xs.is)
      (length-append xs.front (xs.left ∷ []) ∙ omega arith) in
      let gives : Gives E d i x new = sym (append_assoc xs.front (xs.left ∷ []) (x ∷ xs.here ∷ xs.back)) ∙ (λ j. cut.0 j ++ x ∷ cut.1 j) in
      move ! (14 ∷ []) $ as_written ! (lone (Node E).mir) b o $
      -- [the room; the node before, in four; the node at the place, in four; those after; those in front; the words;
      -- the open borrow; obs; auth; the token; the handle; the element]
      sets ! (of_opd ! (get_in ! (fld ! refl (stop !)) (sub ! 0 refl (whole !)))) refl (tt, tt) $ sets ! (of_opd ! (get_in ! (fld ! refl (stop !)) (sub ! 1 refl (whole !)))) refl fa $
      sets ! (is ! (of_opd ! (get_in ! (fld ! refl (stop !)) (sub ! 0 refl (whole !)))) (ap ptr_val (here ∙ me))) refl (tt, tt) $ first ! $ blocks ! $
      sets ! (is ! (of_opd ! (load ! (through ! refl (fld ! refl (stop !))) (look ! 7 refl))) (ap ptr_val between.2)) refl (tt, tt) $ sets ! (of_opd ! (get ! refl)) refl (tt, tt) $
      sets ! (of_opd ! (get ! refl)) refl good $ sets ! (of_opd ! (get ! refl)) refl fa $
      sets ! (agg ! (and_then ! (get ! refl) (and_then ! (get ! refl) (and_then ! (get ! refl) (and_then ! (get ! refl) (no_more !)))))) refl (typed c a) $
      assigns ! (of_opd ! (get ! refl)) (through ! refl (stop !)) (init ! 0 refl (typed c a)) $
      assigns ! (of_opd ! (get ! refl)) (through ! refl (fld ! refl (stop !))) (store ! 2 refl (tt, tt)) $
      assigns_last ! (of_opd ! (get ! refl)) (through ! refl (fld ! refl (stop !))) (store ! 7 refl (tt, tt)) $ exec ! C Λ En (after 4 (function E).body) (at_ret En Post) $
      sets ! (of_opd ! (load ! (through ! refl (fld ! refl (stop !))) (look_in ! 11 (sub ! 2 refl (whole !))))) refl (tt, record { fits = fits }) $ sets !
      (bin ! (get ! refl) (lit ! tt) (record { fits = more })) refl (tt, record { fits = more }) $
      assigns ! (of_opd ! (get ! refl)) (through ! refl (fld ! refl (stop !))) (store_in ! 11 (sub ! 2 refl (whole !)) (tt, record { fits = more })) $
      sets ! (of_opd ! (unit_lit !)) refl (tt, tt) $ move ! (0 ∷ 15 ∷ 16 ∷ 17 ∷ []) $ group ! 4 $
      use1 𝓛 (‵ (One E now x)) (node_made E 𝓛 (Block.the_type (R E) (P E)).name b o c a h x v hv) $ move ! (1 ∷ 2 ∷ 3 ∷ 4 ∷ []) $ one_closes E ! lb lo p l.0.2 l.1 xs.left $
      move ! (2 ∷ 3 ∷ 4 ∷ 5 ∷ []) $ one_closes E ! mb mo m.0.1 p m.1 xs.here $ move ! (0 ∷ 3 ∷ []) $
      use2 𝓛 (‵ (Held E (on ∷ ms) (xs.here ∷ xs.back))) (cons_in E 𝓛 on ms xs.here xs.back) $ move ! (2 ∷ 0 ∷ []) $
      use2 𝓛 (‵ (Held E (now ∷ on ∷ ms) (x ∷ xs.here ∷ xs.back))) (cons_in E 𝓛 now (on ∷ ms) x (xs.here ∷ xs.back)) $ move ! (1 ∷ 0 ∷ []) $
      use2 𝓛 (‵ (Held E (was ∷ now ∷ on ∷ ms) (xs.left ∷ x ∷ xs.here ∷ xs.back))) (cons_in E 𝓛 was (now ∷ on ∷ ms) xs.left (x ∷ xs.here ∷ xs.back)) $ move ! (1 ∷ 0 ∷ []) $
      use2 𝓛 (‵ (Held E new.blocks new.items)) (append_in E 𝓛 ns (was ∷ now ∷ on ∷ ms) xs.front (xs.left ∷ x ∷ xs.here ∷ xs.back) alike) $ nodes_closes E ! tt new rb ro $
      returns ! (look_at ! 0 refl) $ free_all ! refl $ keep ! (0 ∷ 1 ∷ 2 ∷ []) $ by ! (exits passed new gives kept))))

  entry : Asks E d at i → ent 𝓤 (on_entry 𝓛 (ended E).signature (κ, tt) (q, tt) (self, (at, (i, (room, (x, tt))))) (ps, (us, (ks, (rs, (vs, tt))))))
      (WpFn 𝓤 H C Λ (function E) (ps ++ (us ++ (ks ++ (rs ++ (vs ++ []))))) Post)
  entry asked =
      qed 𝓛 ((‵ (flft κ q) ⊛ ‵ ftrue) ∷ ‵ (owns (MutRef (named 0) κ (Nr E) ∷ Pl.the_row ∷ usize ∷ Room E ∷ R E ∷ []) (self, (at, (i, (room, (x, tt)))))
      (ps, (us, (ks, (rs, (vs, tt)))))) ∷ []) ∵ split ! $ move ! (2 ∷ []) $ fsplit3 ! $ fsplit3 ! $ feq_l ! (λ e.
      move ! (2 ∷ []) $ word_had ! at.ptr us (λ f. move ! (2 ∷ []) $ fsplit3 ! $ fsplit ! $ feq_l ! (λ g. move ! (2 ∷ []) $ fsplit ! $ el_tells E ! x vs (λ v u good.
      move ! (3 ∷ []) $ Vacant-had E.al (Node E) ! room rs (λ b o hv has t fa. keep ! (6 ∷ 7 ∷ 8 ∷ 0 ∷ 1 ∷ 2 ∷ 3 ∷ []) $
      by ! (subst (λ (ws : List Val × List Val × List Val × List Val × List Val). ent 𝓤 (⋆ 𝓛 (Had b o hv v))
      (WpFn 𝓤 H C Λ (function E) (ws.0 ++ (ws.1 ++ (ws.2 ++ (ws.3 ++ (ws.4 ++ []))))) Post)) (λ j. (sym e j, sym f j, sym g j, sym t j, sym u j))
      (walk e asked b o hv v fa good)))))))

meets : (E : Bx) {M : Type 1} {𝓤 : Ura M} (𝓛 : Logic 𝓤) (𝓣 : Tables 𝓤 𝓛.H)
    → Meets 𝓛 (ended E).signature (WpFn 𝓤 𝓛.H 𝓣.C 𝓣.Λ (function E)) (closing 𝓛 (ended E) (spec E 𝓛))
meets E {𝓤 = 𝓤} 𝓛 𝓣 =
    walk_Meets 𝓛 (ended E) (stayed E) (
      Goes-ref 𝓛 1 0 tt (plain (λ _. Nr E)),
      (
        Goes-dropped 𝓛 1 (plain (λ _. Pl.the_row)) no (λ κs x f. refl),
        (
          Goes-dropped 𝓛 1 (plain (λ _. usize)) no (λ κs x f. refl),
          (
            Goes-blank 𝓛 1 (plain (λ _. Room E)) no (λ κs x f. tt),
            (Goes-dropped 𝓛 1 (plain (λ _. R E)) no (λ κs x f. refl), tt),
          ),
        ),
      ),
    )
    (spec E 𝓛) (WpFn 𝓤 𝓛.H 𝓣.C 𝓣.Λ (function E)) (WpFn-mono 𝓤 𝓛.H 𝓛.laws 𝓣 (function E))
    (λ z. let a = z.0.3 in let vss = z.0.4 in needs 𝓤 (Asks E a.0.now a.1.0 a.1.1.0) _
    (entry E 𝓛 𝓣.C 𝓣.Λ z.0.0.0 z.0.1.0 a.0.ref_ptr.0 a.0.ref_ptr.1 a.0.ghost_name a.0.now a.1.0 a.1.1.0 a.1.1.1.0 a.1.1.1.1.0 vss.0 vss.1.0 vss.1.1.0 vss.1.1.1.0 vss.1.1.1.1.0))

pub link_before_spec : {M : Type 1} → stated.statement M
unfolding tables_of
link_before_spec 𝓤 𝓛 𝓜 𝓡 wired Y Z L LZ g d dd met md y =
    let E : Bx = record { row = Y; laws = L; al = record { row = Z; laws = LZ; g = g; d = d; drops = dd } } in
    let A = 𝓛.A in
    let 𝓣 : Tables 𝓤 𝓛.H = tables_of 𝓤 𝓛.H 𝓜 (tables 𝓤 𝓛.H 𝓜 𝓡 𝓡.env) in
    spared 𝓛 (ended E).signature (𝓡.run (𝓡.env (#self (args E)))) (run_framed 𝓤 𝓛.H 𝓜 𝓡 (𝓡.env (#self (args E)))) 2 (Y.lives, (Z.lives, tt)) (closing 𝓛 (ended E) (spec E 𝓛))
    (entered 𝓤 𝓛.H (triple_of 𝓛 (ended E).signature (closing 𝓛 (ended E) (spec E 𝓛))) 𝓣.C 𝓣.Λ (#self (args E)) (function E) (code.unfolded 𝓤 𝓛.H 𝓜 𝓡 wired (Y, (Z, tt)) d dd) (meets E 𝓛 𝓣))
    ((y.0.0, y.0.1, tt, y.0.3, y.0.4), y.1)
