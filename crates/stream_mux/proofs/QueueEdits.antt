-- Lists of queues, told by their items, after one of them is changed.
use Rattle.log_stream.specs.declared.items.LogItem.{LogItem}
use Rattle.std.proofs.Common.{ap, arith, refl, subst, sym, true≢false, ◌∙◌, suc, zero}
use Rattle.std.proofs.lemmas.List.{map-set}
use Rattle.std.specs.Option.{is_none}
use Rattle.std.specs.Prelude.{ℕ, List, [], ◌∷◌, ◌++◌, ◌≡◌, ◌<◌, length, get_or, map, replicate, set, Option, Some, None, true, false}
use Rattle.stream_mux.specs.machine.MuxQueues.{HoldsBack, IsBehind, TakesFirst, front_time, front_times, is_up_to_turn, put_behind, queue_of}
use Rattle.stream_mux.specs.declared.turns.Turn.{Turn}
use Rattle.stream_mux.specs.machine.Turns.{IsFirstTurn}
use Rattle.stream_mux.specs.meaning.MergedStreams.{shown_time}

-- an item that gives the same in the place of another leaves what all give
pub map_set_same : {X Y : Type 0} (xs : List X) (f : X → Y) (k : ℕ) (x x' : X) → k < length xs → x ≡ get_or xs k x → f x' ≡ f x
    → map f (set xs k x') ≡ map f xs
map_set_same [] f k x x' within is same = absurd (omega arith)
map_set_same (y ∷ xs) f zero x x' within is same = ap (λ z. z ∷ map f xs) (same ∙ ap f is)
map_set_same (y ∷ xs) f (suc k) x x' within is same = ap (λ l. f y ∷ l) (map_set_same xs f k x x' (omega arith) is same)

-- what the changed one gives stands in its place
pub map_set_is : {X Y : Type 0} (xs : List X) (f : X → Y) (k : ℕ) (x' : X) (y : Y) → f x' ≡ y
    → map f (set xs k x') ≡ set (map f xs) k y
map_set_is xs f k x' y is = map-set f xs k x' ∙ ap (set (map f xs) k) is

queue_there : {X : Type 0} (xs : List X) (items : X → List LogItem) (k : ℕ) (q : X) → k < length xs → q ≡ get_or xs k q
    → items q ≡ queue_of (map items xs) k
queue_there [] items k q within is = absurd (omega arith)
queue_there (y ∷ xs) items zero q within is = ap items is
queue_there (y ∷ xs) items (suc k) q within is = queue_there xs items k q (omega arith) is

-- one item more in a queue
pub items_put : {X : Type 0} (xs : List X) (items : X → List LogItem) (k : ℕ) (q q' : X) (item : LogItem) → k < length xs
    → q ≡ get_or xs k q → items q' ≡ items q ++ item ∷ [] → map items (set xs k q') ≡ put_behind k item (map items xs)
items_put xs items k q q' item within is put =
    map_set_is xs items k q' (queue_of (map items xs) k ++ item ∷ [])
    (put ∙ ap (λ is. is ++ item ∷ []) (queue_there xs items k q within is))

-- that is in front of an empty one, and behind the first of another
pub front_of_first : (old new : List LogItem) (item : LogItem) → is_none (front_time old) ≡ true → new ≡ old ++ item ∷ []
    → front_time new ≡ Some (shown_time item)
front_of_first [] new item none put = ap front_time put
front_of_first (first ∷ rest) new item none put = absurd (true≢false (sym none))

pub front_stays : (old new : List LogItem) (item : LogItem) → is_none (front_time old) ≡ false → new ≡ old ++ item ∷ []
    → front_time new ≡ front_time old
front_stays [] new item some put = absurd (true≢false some)
front_stays (first ∷ rest) new item some put = ap front_time put

pub queue_here : {X : Type 0} (xs : List X) (items : X → List LogItem) (k : ℕ) (q : X) → k < length xs → q ≡ get_or xs k q
    → queue_of (map items xs) k ≡ items q
queue_here xs items k q within is = sym (queue_there xs items k q within is)

-- the fronts of queues, told by their items
pub fronts_of : {X : Type 0} (xs : List X) (items : X → List LogItem) → map (λ x. front_time (items x)) xs ≡ front_times (map items xs)
fronts_of [] items = refl
fronts_of (x ∷ xs) items = ap (λ l. front_time (items x) ∷ l) (fronts_of xs items)

-- what the first turn tells where nothing is taken
pub holds_back : {X : Type 0} (xs : List X) (items : X → List LogItem) (fronts : List (Option ℕ)) (queues : List (List LogItem))
    (bound front : Option Turn) → IsFirstTurn fronts front → fronts ≡ map (λ x. front_time (items x)) xs → map items xs ≡ queues
    → IsBehind bound front → HoldsBack bound queues
holds_back xs items fronts queues bound front first is view behind = record {
  front = front;
  first = subst (λ times. IsFirstTurn times front) (is ∙ fronts_of xs items ∙ ap front_times view) first;
  behind = behind;
}

-- what it tells where an item is taken
pub takes_first : {X : Type 0} (xs : List X) (items : X → List LogItem) (fronts : List (Option ℕ)) (queues : List (List LogItem))
    (bound : Option Turn) (turn : Turn) (q q' : X) (item : LogItem) → IsFirstTurn fronts (Some turn)
    → fronts ≡ map (λ x. front_time (items x)) xs → map items xs ≡ queues → is_up_to_turn bound turn ≡ true
    → turn.stream < length xs → q ≡ get_or xs turn.stream q → items q ≡ item ∷ items q'
    → TakesFirst bound queues item (map items (set xs turn.stream q'))
takes_first xs items fronts queues bound turn q q' item first is view up within there taken = record {
  turn = turn;
  first = subst (λ times. IsFirstTurn times (Some turn)) (is ∙ fronts_of xs items ∙ ap front_times view) first;
  passes = up;
  rest = items q';
  queue = ap (λ qs. queue_of qs turn.stream) (sym view) ∙ queue_here xs items turn.stream q within there ∙ taken;
  after = map_set_is xs items turn.stream q' (items q') refl ∙ ap (λ qs. set qs turn.stream (items q')) view;
}

pub fronts_of_none : (n : ℕ) → front_times (replicate n []) ≡ replicate n None
fronts_of_none zero = refl
fronts_of_none (suc n) = ap (λ l. None ∷ l) (fronts_of_none n)

-- queues that are all empty have no front
pub fronts_of_empty : {X : Type 0} (xs : List X) (items : X → List LogItem) (n : ℕ) → map items xs ≡ replicate n []
    → replicate n None ≡ map (λ x. front_time (items x)) xs
fronts_of_empty xs items n empty = sym (fronts_of_none n) ∙ ap front_times (sym empty) ∙ sym (fronts_of xs items)
