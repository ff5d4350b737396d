-- Times of rows in a queue.
use Rattle.windows.proofs.Vocabulary.{length, ◌≡◌, ◌⊎◌, inl, inr, ⊎_elim, ℕ, zero, suc, ◌-◌, ◌<◌, ◌≤◌, List, [], ◌∷◌, ◌++◌, drop, get_or, All, Contains, refl, sym, ap, subst, arith, length-append}
use Rattle.windows.proofs.Vocabulary.{◌∙◌, All-contains, All-nil, All-push, All-weaker, Contains-append_right, Value, all_from, here, later, first_or_later, Queue, AreQueued, AreUpToTime, IsDueQueue}
use Rattle.windows.proofs.Vocabulary.{LetsGo, DuesNeverFall, waiting_of, Due, HasTimeAt, HasBehindAt}

-- one that is not earlier goes last
push_ordered : (dues : List Due) (d : Due) → DuesNeverFall dues → AreUpToTime d.time dues → DuesNeverFall (dues ++ d ∷ [])
push_ordered [] d ordered up_to = (All-nil _, tt)
push_ordered (x ∷ dues) d ordered up_to = (
  All-push (λ l. x.time ≤ l.time) dues d ordered.0 (All-contains (λ l. l.time ≤ d.time) (x ∷ dues) x up_to (here x dues)),
  push_ordered dues d ordered.1 (all_from (λ l. l.time ≤ d.time) dues (λ l there. All-contains (λ y. y.time ≤ d.time) (x ∷ dues) l up_to (later l x dues there))),
)

pub pushed_queue : (queue : Queue) (d : Due) → IsDueQueue queue → AreUpToTime d.time queue.dues → IsDueQueue (record { dues = queue.dues ++ d ∷ []; far = queue.far })
pushed_queue queue d is up_to = record {
  ordered = push_ordered queue.dues d is.ordered up_to;
  within = omega (arith, is.within, length-append queue.dues (d ∷ []));
}

-- where the first that waits is not far enough, none is
pub none_far : (low now : ℕ) (dues : List Due) (far : ℕ) (d : Due) → DuesNeverFall dues → d ≡ get_or dues far d → now - d.time < low → All (λ x. now - x.time < low) (drop far dues)
none_far low now [] zero d ordered at near = All-nil _
none_far low now [] (suc far) d ordered at near = All-nil _
none_far low now (x ∷ dues) zero d ordered at near = all_from (λ l. now - l.time < low) (x ∷ dues) (λ l there.
    let first : x ≡ d = sym at in
    ⊎_elim (λ same. subst (λ y. now - y.time < low) (sym first ∙ same) near) (λ behind.
    let above : x.time ≤ l.time = All-contains (λ y. x.time ≤ y.time) dues l ordered.0 behind in
    let at_first : now - x.time < low = subst (λ y. now - y.time < low) (sym first) near in omega (arith, above, at_first)) (first_or_later l x dues there))
none_far low now (x ∷ dues) (suc far) d ordered at near = none_far low now dues far d ordered.1 at near

-- those that were put in order
pub sorted_dues : (dues : List Due) → ((i j : ℕ) (d : Due) → i ≤ j → j < length dues → (get_or dues i d).time ≤ (get_or dues j d).time) → DuesNeverFall dues
sorted_dues [] rises = tt
sorted_dues (x ∷ dues) rises = (
  all_from (λ l. x.time ≤ l.time) dues (λ l there. subst (λ y. x.time ≤ y.time) there.2 (rises 0 (suc there.0) l (omega arith) (omega (arith, there.1)))),
  sorted_dues dues (λ i j d le within. rises (suc i) (suc j) d (omega (arith, le)) (omega (arith, within))),
)

pub last_waits : (waiting after : List Due) (d : Due) → after ≡ waiting ++ d ∷ [] → Contains after d
last_waits waiting after d is = subst (λ l. Contains l d) (sym is) (Contains-append_right waiting (d ∷ []) d (here d []))

pub up_to_later : (last now : ℕ) (dues : List Due) → last ≤ now → AreUpToTime last dues → AreUpToTime now dues
up_to_later last now dues below up_to = All-weaker (λ d. d.time ≤ last) (λ d. d.time ≤ now) (λ d is. omega (arith, is, below)) dues up_to

-- ---- the first goes

drop_pred : (far : ℕ) (d : Due) (dues : List Due) (l : Due) → Contains (drop far (d ∷ dues)) l → (d ≡ l) ⊎ Contains (drop (far - 1) dues) l
drop_pred zero d dues l there = first_or_later l d dues there
drop_pred (suc far) d dues l there = inr (subst (λ n. Contains (drop n dues) l) (omega arith) there)

pub goes_first : (Out : ℕ → Type 0) (before middle after : Queue) (d : Due) → Out d.time → LetsGo Out Out before middle → middle.dues ≡ d ∷ after.dues
    → after.far ≡ middle.far - 1 → LetsGo Out Out before after
goes_first Out before middle after d out goes is far = record {
  among = λ x there. goes.among x (subst (λ l. Contains l x) (sym is) (later x d after.dues there));
  stays = λ x at. ⊎_elim (λ o. inl o) (λ mid. ⊎_elim (λ same. inl (subst (λ y. Out y.time) same out)) (λ rest. inr rest)
      (first_or_later x d after.dues (subst (λ l. Contains l x) is mid))) (goes.stays x at);
  waits = λ x at. ⊎_elim (λ o. inl o) (λ mid. ⊎_elim (λ same. inl (subst (λ y. Out y.time) same out))
      (λ rest. inr (subst (λ n. Contains (drop n after.dues) x) (sym far) rest))
      (drop_pred middle.far d after.dues x (subst (λ l. Contains (drop middle.far l) x) is mid))) (goes.waits x at);
}

-- the first that waits is passed
pub passes_first : (Gone Out : ℕ → Type 0) (before middle after : Queue) (d : Due) → Out d.time → LetsGo Gone Out before middle → waiting_of middle ≡ d ∷ waiting_of after
    → after.dues ≡ middle.dues → LetsGo Gone Out before after
passes_first Gone Out before middle after d out goes is same = record {
  among = λ x there. goes.among x (subst (λ l. Contains l x) same there);
  stays = λ x at. ⊎_elim (λ o. inl o) (λ mid. inr (subst (λ l. Contains l x) (sym same) mid)) (goes.stays x at);
  waits = λ x at. ⊎_elim (λ o. inl o) (λ mid. ⊎_elim (λ first. inl (subst (λ y. Out y.time) first out)) (λ rest. inr rest)
      (first_or_later x d (waiting_of after) (subst (λ l. Contains l x) is mid))) (goes.waits x at);
}

-- what is said of the place of each of a list, with the first taken off
pub first_done : (P Q : ℕ → Type 0) (Before : Due → Type 0) (dues rest : List Due) (d : Due) → dues ≡ d ∷ rest → ((place : ℕ) → P place → Q place) → Q d.place
    → ((x : Due) → Before x → P x.place ⊎ Contains dues x) → (x : Due) → Before x → Q x.place ⊎ Contains rest x
first_done P Q Before dues rest d is still done so_far x before =
    ⊎_elim (λ p. inl (still x.place p)) (λ mid. ⊎_elim (λ same. inl (subst (λ y. Q y.place) same done)) (λ behind. inr behind)
    (first_or_later x d rest (subst (λ l. Contains l x) is mid))) (so_far x before)

-- ---- rows that are queued

waiting_among : (far : ℕ) (dues : List Due) (d : Due) → Contains (drop far dues) d → Contains dues d
waiting_among zero dues d there = there
waiting_among (suc far) [] d there = there
waiting_among (suc far) (x ∷ dues) d there = later d x dues (waiting_among far dues d there)

pub waits_there : (queue : Queue) (d : Due) → Contains (waiting_of queue) d → Contains queue.dues d
waits_there queue d there = waiting_among queue.far queue.dues d there

-- with fewer times
pub queued_fewer : (es after : List (List Value × List ℕ)) (queue : Queue) → ((place time : ℕ) → HasTimeAt after place time → HasTimeAt es place time)
    → ((place time : ℕ) → HasBehindAt after place time → HasBehindAt es place time) → AreQueued es queue → AreQueued after queue
queued_fewer es after queue from behind queued = record {
  times = λ place time has. queued.times place time (from place time has);
  waiting = λ place time has. queued.waiting place time (behind place time has);
}
