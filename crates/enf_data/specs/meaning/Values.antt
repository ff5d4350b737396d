-- The values of the program, their order, and the tests that tell whether values and events are equal.
use Rattle.enf_data.specs.declared.events.Event.{Event}
use Rattle.enf_data.specs.declared.values.Value.{Value}
use Rattle.enf_data.specs.declared.values.Value.TheVariants.{Num, Text}
use Rattle.enf_data.specs.meaning.Texts.{IsTextValue}
use Rattle.std.specs.Cmp.Lexicographic.{pointwise, slice_cmp}
use Rattle.std.specs.List.{list_any}
use Rattle.std.specs.Ordering.{int_eq, nat_cmp, int_cmp}
use Rattle.std.specs.Prelude.{Bool, false, nat_eq, List, ◌&&◌, ◌^◌, ◌<◌, ℤ, pos, negsuc}
use Rattle.std.specs.declared.cmp.Ordering.{Ordering}
use Rattle.std.specs.declared.cmp.Ordering.TheVariants.{Less, Greater}

-- whether two values are equal
abbrev pub value_eq : Value → Value → Bool
value_eq (Num x) (Num y) = int_eq x y
value_eq (Text s) (Text t) = pointwise nat_eq s t
value_eq v w = false

-- whether two rows are equal
abbrev pub row_eq : List Value → List Value → Bool
row_eq a b = pointwise value_eq a b

-- whether two events are equal
abbrev pub event_eq : Event → Event → Bool
event_eq a b = nat_eq a.name.0 b.name.0 && row_eq a.args b.args

-- whether an event is in a list
abbrev pub has_event : List Event → Event → Bool
has_event events event = list_any (event_eq event) events

-- the order of values: numbers before texts, numbers by value, texts by bytes
abbrev pub value_cmp : Value → Value → Ordering
value_cmp (Num x) (Num y) = int_cmp x y
value_cmp (Num x) (Text t) = Less
value_cmp (Text s) (Num y) = Greater
value_cmp (Text s) (Text t) = slice_cmp nat_cmp s t

-- the order of rows, which is lexicographic
abbrev pub row_cmp : List Value → List Value → Ordering
row_cmp a b = slice_cmp value_cmp a b

-- a number of 64 bits: from -2^63, which is negsuc (2^63 - 1), to 2^63 - 1
abbrev pub IsNumberValue : ℤ → Type 0
IsNumberValue (pos n) = n < 2 ^ 63
IsNumberValue (negsuc n) = n < 2 ^ 63

-- the value is one of the program: its number has 64 bits, or its text is UTF-8 and not too long
abbrev pub IsValue : Value → Type 0
IsValue (Num number) = IsNumberValue number
IsValue (Text text) = IsTextValue text
