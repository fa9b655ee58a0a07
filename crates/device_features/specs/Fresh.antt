-- The record of a new device. Its values are this profile's own.
use Rattle.std.specs.Prelude.{ℕ, ◌&&◌, true, false, nat_lt, [], if◌then◌else◌, Some, None}
use Rattle.message_table.specs.declared.deck_words.DeckInfo.TheVariants.{Stop}
use Rattle.text_core.specs.declared.kind.Kind.{Kind}
use Rattle.device_features.specs.declared.record.Record.{Record}
use Rattle.device_features.specs.Kinds.{is_switch}

abbrev pub fresh_record : Kind → ℕ → Record
fresh_record kind ports = record {
  power = true;
  active = None;
  path = None;
  deck = Stop;
  menu = false;
  audio = false;
  volume = 20;
  mute = false;
  arc = false;
  selected = if is_switch kind && nat_lt 0 ports then Some 1 else None;
  language = record { first = 0x65; second = 0x6e; third = 0x67 };
  osd = record { items = [] };
  held = None;
  heard = None;
  sub = None;
}
