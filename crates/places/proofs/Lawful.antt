-- The service's store is one that the laws of places hold of.
use Rattle.rule_laws.specs.Words.{length_words_of, words_kept}
use Rattle.places.specs.Forms.{words}
use Rattle.places.specs.Places.{Lawful, first_within, first_before_lem}

pub words_lawful : Lawful words
words_lawful = record { wide = length_words_of; kept = words_kept; within = first_within; ordered = first_before_lem }
