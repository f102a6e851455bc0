use Rattle.sbx_flat.proofs.Places.{frame_word_written, register_written}
use Rattle.sbx_flat.proofs.laws.locations_keep_words.Goals as goal

pub returns-clause-register : goal.returns-clause-register
returns-clause-register c base n v file l some small = register_written base n v file l some small

pub returns-clause-frame_word : goal.returns-clause-frame_word
returns-clause-frame_word c base k v file l = frame_word_written base k v file l
