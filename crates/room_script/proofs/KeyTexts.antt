-- A key has the word of its form.
use Rattle.std.proofs.Common.{◌≡◌, ℕ, true, List, Option, Some, None, Result, Ok, option_map, refl, sym, ap, ◌∙◌}
use Rattle.std.specs.List.{list_all}
use Rattle.message_table.specs.declared.user_control.UserControl.{UserControl}
use Rattle.text_core.specs.Phys.{phys_of}
use Rattle.text_core.specs.declared.at.AtWord.{AtWord}
use Rattle.text_forms.specs.Forms.{Meaning, level_at, port_at, text_at}
use Rattle.room_lines.specs.Script.{script_rows}
use Rattle.device_features.specs.declared.keys.Key.{Key}
use Rattle.device_features.specs.declared.keys.Key.TheVariants as keys
use Rattle.device_features.specs.declared.keys.VolumeKey.TheVariants.{Up, Down, Mute}
use Rattle.device_features.specs.KeyWords.{word_of_key}
use Rattle.device_features.specs.declared.key_word.KeyWord.{KeyWord}
use Rattle.device_features.specs.declared.key_word.KeyWord.TheVariants as the
use Rattle.room_script.specs.Keys.{control_of, destination_of, key_or_cause, language_of, remote_by}
use Rattle.room_script.specs.Lines.{KeysHaveTheirWords, names_key}
use Rattle.room_script.specs.declared.script.ScriptCause.{ScriptCause}

-- the word of a key that is said is this one
abbrev HasWord : KeyWord → Result Key (AtWord ScriptCause) → Type 0
HasWord word read = (key : Key) → read ≡ Ok key → word_of_key key ≡ word

same : (word : KeyWord) (mine : Key) → word_of_key mine ≡ word → HasWord word (Ok mine)
same word mine h key e = let is : mine ≡ key = cc in ap word_of_key (sym is) ∙ h

known_has : {T : Type 0} (word : KeyWord) (make : T → Key) → ((x : T) → word_of_key (make x) ≡ word) → (o : Option T) → HasWord word (key_or_cause (option_map make o))
known_has word make h None key e = cc
known_has word make h (Some x) key e = same word (make x) (h x) key e

remote_has : (to : Option ℕ) (code : Option UserControl) → HasWord the.Remote (remote_by to code)
remote_has None code key e = cc
remote_has (Some to) None key e = cc
remote_has (Some to) (Some code) key e = same the.Remote (keys.Remote to code) refl key e

pub has_its_word : KeysHaveTheirWords
has_its_word the.Play values key e = same the.Play keys.Play refl key e
has_its_word the.Stop values key e = same the.Stop keys.Stop refl key e
has_its_word the.Eject values key e = same the.Eject keys.Eject refl key e
has_its_word the.Load values key e = same the.Load keys.Load refl key e
has_its_word the.Menu values key e = same the.Menu keys.Menu refl key e
has_its_word the.Power values key e = same the.Power keys.Power refl key e
has_its_word the.VolumeUp values key e = same the.VolumeUp (keys.Volume Up) refl key e
has_its_word the.VolumeDown values key e = same the.VolumeDown (keys.Volume Down) refl key e
has_its_word the.Mute values key e = same the.Mute (keys.Volume Mute) refl key e
has_its_word the.Port values key e = same the.Port (keys.Port (port_at values 5)) refl key e
has_its_word the.Watch values key e = known_has the.Watch keys.Watch (λ x. refl) (phys_of (text_at values 5)) key e
has_its_word the.Language values key e = known_has the.Language keys.Language (λ x. refl) (language_of (text_at values 5)) key e
has_its_word the.Audio values key e = same the.Audio (keys.Audio (level_at values 5)) refl key e
has_its_word the.Arc values key e = same the.Arc (keys.Arc (level_at values 5)) refl key e
has_its_word the.Remote values key e = remote_has (destination_of (text_at values 5)) (control_of (text_at values 6)) key e

pub rows_name_keys : list_all names_key script_rows ≡ true
rows_name_keys = refl
