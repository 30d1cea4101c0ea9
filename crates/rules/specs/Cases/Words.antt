-- Cases of M-106: an item's eight words, and the stored item that eight words are at a place. One table, and one statement: every case holds.
use Rattle.std.specs.Prelude.{ℕ, List, [], ◌∷◌}
use Rattle.rules.specs.Limits.{flight, fence, rally, store_words, item_words}
use Rattle.rules.specs.Messages.{Item, item_of}
use Rattle.rules.specs.Words.{words_of, item_of_words}
use Rattle.rules.specs.Cases.{Case, numbers, bytes, ◌is◌}

-- every field another number
abbrev speed : Item
speed =
    record {
      param1 = 0x7fc00001;
      param2 = 0x40a00000;
      param3 = 0x80000000;
      param4 = 0xffffffff;
      x = 0x01020304;
      y = 0xfffefdfc;
      z = 0x41200000;
      seq = 258;
      command = 178;
      frame = 2;
      autocontinue = 1;
      kind = 0;
    }

-- the words of an item with such a last one
abbrev ending : ℕ → List ℕ
ending last = 1 ∷ 2 ∷ 3 ∷ 4 ∷ 5 ∷ 6 ∷ 7 ∷ last ∷ []

abbrev pub words : List Case
words =
    -- "5,632 words (2 x 352 x 8)"
    (numbers (item_words ∷ store_words ∷ []) is numbers (8 ∷ 5632 ∷ []))
    -- word 7 is command + 65536 * frame + 2^24 * autocontinue
    ∷ (numbers (words_of speed) is numbers (0x7fc00001 ∷ 0x40a00000 ∷ 0x80000000 ∷ 0xffffffff ∷ 0x01020304 ∷ 0xfffefdfc ∷ 0x41200000 ∷ 0x010200b2 ∷ []))
    -- its 38 bytes, as number 258 of flight: seq and kind of the place, system, component and current 0
    ∷ (bytes (item_of (item_of_words (words_of speed) flight 258))
    is bytes (0x01 ∷ 0x00 ∷ 0xc0 ∷ 0x7f ∷ 0x00 ∷ 0x00 ∷ 0xa0 ∷ 0x40 ∷ 0x00 ∷ 0x00 ∷ 0x00 ∷ 0x80 ∷ 0xff ∷ 0xff ∷ 0xff ∷ 0xff ∷ 0x04 ∷ 0x03 ∷ 0x02 ∷ 0x01
    ∷ 0xfc ∷ 0xfd ∷ 0xfe ∷ 0xff ∷ 0x00 ∷ 0x00 ∷ 0x20 ∷ 0x41 ∷ 0x02 ∷ 0x01 ∷ 0xb2 ∷ 0x00 ∷ 0x00 ∷ 0x00 ∷ 0x02 ∷ 0x00 ∷ 0x01 ∷ 0x00 ∷ []))
    -- the same words at another place
    ∷ (bytes (item_of (item_of_words (ending 0x03051389) fence 63))
    is bytes (1 ∷ 0 ∷ 0 ∷ 0 ∷ 2 ∷ 0 ∷ 0 ∷ 0 ∷ 3 ∷ 0 ∷ 0 ∷ 0 ∷ 4 ∷ 0 ∷ 0 ∷ 0 ∷ 5 ∷ 0 ∷ 0 ∷ 0 ∷ 6 ∷ 0 ∷ 0 ∷ 0 ∷ 7 ∷ 0 ∷ 0 ∷ 0 ∷ 63 ∷ 0 ∷ 0x89 ∷ 0x13 ∷ 0 ∷ 0 ∷ 5 ∷ 0 ∷ 3 ∷ 1 ∷ []))
    ∷ (bytes (item_of (item_of_words (ending 0x03051389) rally 7))
    is bytes (1 ∷ 0 ∷ 0 ∷ 0 ∷ 2 ∷ 0 ∷ 0 ∷ 0 ∷ 3 ∷ 0 ∷ 0 ∷ 0 ∷ 4 ∷ 0 ∷ 0 ∷ 0 ∷ 5 ∷ 0 ∷ 0 ∷ 0 ∷ 6 ∷ 0 ∷ 0 ∷ 0 ∷ 7 ∷ 0 ∷ 0 ∷ 0 ∷ 7 ∷ 0 ∷ 0x89 ∷ 0x13 ∷ 0 ∷ 0 ∷ 5 ∷ 0 ∷ 3 ∷ 2 ∷ []))
    -- both ends of each field of the last word
    ∷ (numbers (words_of (item_of_words (ending 0x0000ffff) flight 0)) is numbers (1 ∷ 2 ∷ 3 ∷ 4 ∷ 5 ∷ 6 ∷ 7 ∷ 0x0000ffff ∷ []))
    ∷ (numbers (words_of (item_of_words (ending 0x00ff0000) flight 0)) is numbers (1 ∷ 2 ∷ 3 ∷ 4 ∷ 5 ∷ 6 ∷ 7 ∷ 0x00ff0000 ∷ []))
    ∷ (numbers (words_of (item_of_words (ending 0xff000000) flight 0)) is numbers (1 ∷ 2 ∷ 3 ∷ 4 ∷ 5 ∷ 6 ∷ 7 ∷ 0xff000000 ∷ []))
    ∷ []
