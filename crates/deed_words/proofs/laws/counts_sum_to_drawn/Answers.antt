use Rattle.deed_words.proofs.Counting.{counts_sum_up, gtin_sums_up}
use Rattle.deed_words.proofs.Sums.{drawn_is_sum, gtin_is_sum}
use Rattle.deed_words.proofs.laws.counts_sum_to_drawn.Goals as goal

pub returns-clause-batch : goal.returns-clause-batch
returns-clause-batch c = counts_sum_up

pub returns-clause-gtin : goal.returns-clause-gtin
returns-clause-gtin c = gtin_sums_up

pub returns-clause-drawn : goal.returns-clause-drawn
returns-clause-drawn c = drawn_is_sum

pub returns-clause-batches : goal.returns-clause-batches
returns-clause-batches c = gtin_is_sum
