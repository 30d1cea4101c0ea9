-- The numbers of the last word fit their fields by their remainders, and the item is made of the words.
use Rattle.storage.proofs.from_words.Goals as goal

pub returns : goal.returns
returns c = c.made.ensures
