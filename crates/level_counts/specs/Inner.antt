-- The code's constants as the definitions have them.
use Rattle.message.specs.Message.{none_value}
use Rattle.level_counts.specs.declared.Places.{Places}
use Rattle.level_counts.specs.Places.{not_yet, value_count, bit_places, first_proposals, second_echoes, second_proposals, sides, centres, slot_count}

abbrev pub places_of : Places
places_of = record {
  none_value = none_value;
  not_yet = not_yet;
  values = value_count;
  bit_places = bit_places;
  first_proposals = first_proposals;
  second_echoes = second_echoes;
  second_proposals = second_proposals;
  sides = sides;
  centres = centres;
  slots = slot_count;
}
