-- What is kept is fetched: an item whose fields fit is read back from the place where its words are put, with the number and the kind of the place.
use Prim.Native.Nat.{ℕ, zero, suc, ◌^◌, ◌≤◌, ◌<◌}
use native.Mathlib.Omega.{arith}
use Rattle.std.proofs.Common.{mod-eq_of_lt, ap, ◌∙◌}
use Rattle.std.specs.Prelude.{◌≡◌, refl, Bool, length, get_or}
use Rattle.rules.specs.Limits.{rally, size_of, store_words, byte_values, clock_values}
use Rattle.rules.specs.Layouts.{layout_of}
use Rattle.rules.specs.Messages.{Item, station, item_int, item_in}
use Rattle.rules.specs.Words.{command_in, frame_in, autocontinue_in, last_word_of, words_of, item_of_words}
use Rattle.rule_laws.specs.Fitting.{Fits}
use Rattle.rule_laws.specs.Words.{length_words_of, command_kept, frame_kept, autocontinue_kept, words_read}
use Rattle.places.specs.Forms.{Store, words, item_at}
use Rattle.places.proofs.Lawful.{words_lawful}
use Rattle.places.specs.Writes.{put_at, item_fetched}

-- an item as number n of a kind: "Seq and kind follow from the place"
abbrev pub at_place : (kind n : ℕ) → Item → Item
at_place kind n i =
    record {
      param1 = i.param1;
      param2 = i.param2;
      param3 = i.param3;
      param4 = i.param4;
      x = i.x;
      y = i.y;
      z = i.z;
      seq = n;
      command = i.command;
      frame = i.frame;
      autocontinue = i.autocontinue;
      kind = kind;
    }

module _ (i : Item) (fits : Fits (item_int (station 0 0) 0 i)) where
  -- what the fields' sizes say of the numbers in the last word
  command_fits : i.command < byte_values ^ 2
  unfolding layout_of
  command_fits = fits.1.1.1.1.1.1.1.1.0

  frame_fits : i.frame < byte_values
  unfolding layout_of
  frame_fits = fits.1.1.1.1.1.1.1.1.1.1.1.0

  autocontinue_fits : i.autocontinue < byte_values
  unfolding layout_of
  autocontinue_fits = fits.1.1.1.1.1.1.1.1.1.1.1.1.1.0

  words_fit_lem : (n : ℕ) → get_or (words_of i) n 0 < clock_values
  unfolding layout_of
  words_fit_lem zero = fits.0
  words_fit_lem (suc zero) = fits.1.0
  words_fit_lem (suc (suc zero)) = fits.1.1.0
  words_fit_lem (suc (suc (suc zero))) = fits.1.1.1.0
  words_fit_lem (suc (suc (suc (suc zero)))) = fits.1.1.1.1.0
  words_fit_lem (suc (suc (suc (suc (suc zero))))) = fits.1.1.1.1.1.0
  words_fit_lem (suc (suc (suc (suc (suc (suc zero)))))) = fits.1.1.1.1.1.1.0
  words_fit_lem (suc (suc (suc (suc (suc (suc (suc zero))))))) = omega arith
  words_fit_lem (suc (suc (suc (suc (suc (suc (suc (suc n)))))))) = omega arith

  same_item : (kind n : ℕ) → item_of_words (words_of i) kind n ≡ at_place kind n i
  same_item kind n =
      let c = i.command in
      let f = i.frame in
      let a = i.autocontinue in
      let last = last_word_of c f a in
      let command : command_in last ≡ c = command_kept c f a ∙ mod-eq_of_lt command_fits in
      let frame : frame_in last ≡ f = frame_kept c f a ∙ mod-eq_of_lt frame_fits in
      let autocontinue : autocontinue_in last ≡ a = autocontinue_kept c f a ∙ mod-eq_of_lt autocontinue_fits in
      rw (command, frame, autocontinue) refl

  pub kept_fetched :
      (store : Store) (half : Bool) (kind n : ℕ) → store_words ≤ length store → kind ≤ rally → n < size_of kind → n < byte_values ^ 2
      → item_in (item_at words (put_at words store half kind n (words_of i)) half kind n) ≡ at_place kind n i
  kept_fetched store half kind n long known below short =
      ap item_in (item_fetched words words_lawful store long (words_of i) (length_words_of i) half kind n known below)
      ∙ words_read (words_of i) kind n words_fit_lem (omega arith) short
      ∙ same_item kind n
