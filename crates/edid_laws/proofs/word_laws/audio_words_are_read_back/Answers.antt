use Rattle.edid_laws.proofs.AudioBack.{descriptor_back}
use Rattle.edid_laws.proofs.word_laws.audio_words_are_read_back.Goals as goal

pub returns-clause-format : goal.returns-clause-format
returns-clause-format c = λ f ch r t first rates third says. (descriptor_back f ch r t first rates third says).format_is

pub returns-clause-channels : goal.returns-clause-channels
returns-clause-channels c = λ f ch r t first rates third says. (descriptor_back f ch r t first rates third says).count_is

pub returns-clause-rates : goal.returns-clause-rates
returns-clause-rates c = λ f ch r t first rates third says. (descriptor_back f ch r t first rates third says).rates_are

pub returns-clause-third : goal.returns-clause-third
returns-clause-third c = λ f ch r t first rates third says. (descriptor_back f ch r t first rates third says).third_is
