use Rattle.frame_core.proofs.Above.{publish_makes_live, live_until_given_up}
use Rattle.frame_table.proofs.Live.{live_places_are_found, loads_find_lives, gone_is_overtaken, answers_are_noted}
use Rattle.frame_table.proofs.laws.a_replaced_place_is_never_empty.Goals as goal

pub returns-clause-begins : goal.returns-clause-begins
returns-clause-begins c = publish_makes_live

pub returns-clause-lasts : goal.returns-clause-lasts
returns-clause-lasts c = live_until_given_up

pub returns-clause-found : goal.returns-clause-found
returns-clause-found c = live_places_are_found

pub returns-clause-loaded : goal.returns-clause-loaded
returns-clause-loaded c = loads_find_lives

pub returns-clause-overtaken : goal.returns-clause-overtaken
returns-clause-overtaken c = gone_is_overtaken

pub returns-clause-noted : goal.returns-clause-noted
returns-clause-noted c = answers_are_noted
