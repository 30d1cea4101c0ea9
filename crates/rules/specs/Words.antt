-- An item as eight words, M-106: "Keep each item as eight words in a lent slice of 32-bit numbers: four params, x, y, z, then command, frame and
-- autocontinue in one, lowest first."
use Rattle.std.specs.Prelude.{ℕ, ◌+◌, ◌*◌, ◌/◌, ◌%◌, ◌^◌, List, [], ◌∷◌, get_or}
use Rattle.rules.specs.Limits.{byte_values}
use Rattle.rules.specs.Messages.{Item}

-- where the frame and the autocontinue begin in the last word: behind the two bytes of the command, and behind the frame's
abbrev pub frame_unit : ℕ
frame_unit = byte_values ^ 2

abbrev pub autocontinue_unit : ℕ
autocontinue_unit = byte_values ^ 3

-- the last of the eight words, and the three numbers in it
abbrev pub last_word : ℕ
last_word = 7

abbrev pub command_in : ℕ → ℕ
command_in last = last % frame_unit

abbrev pub frame_in : ℕ → ℕ
frame_in last = last / frame_unit % byte_values

abbrev pub autocontinue_in : ℕ → ℕ
autocontinue_in last = last / autocontinue_unit % byte_values

-- the word that has them, each in its own bytes
abbrev pub last_word_of : (command frame autocontinue : ℕ) → ℕ
last_word_of command frame autocontinue = command % frame_unit + frame % byte_values * frame_unit + autocontinue % byte_values * autocontinue_unit

-- the eight words of an item
abbrev pub words_of : Item → List ℕ
words_of i =
    i.param1 ∷ i.param2 ∷ i.param3 ∷ i.param4 ∷ i.x ∷ i.y ∷ i.z ∷ last_word_of i.command i.frame i.autocontinue ∷ []

-- the item that eight words are, as number n of a kind: "Seq and kind follow from the place"
abbrev pub item_of_words : List ℕ → (kind n : ℕ) → Item
item_of_words w kind n =
    record {
      param1 = get_or w 0 0;
      param2 = get_or w 1 0;
      param3 = get_or w 2 0;
      param4 = get_or w 3 0;
      x = get_or w 4 0;
      y = get_or w 5 0;
      z = get_or w 6 0;
      seq = n;
      command = command_in (get_or w last_word 0);
      frame = frame_in (get_or w last_word 0);
      autocontinue = autocontinue_in (get_or w last_word 0);
      kind = kind;
    }
