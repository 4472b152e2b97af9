-- `judge::short` meets its contract: the areas are looked at one by one. Assumes nothing.
use Rattle.judge.specs.Texts.{lent}
use Rattle.judge.proofs.Texts.{short-schema, short_nodes, short-properties, short-values, short_index, short-query}
use Rattle.judge.proofs.short.Goals as goal

pub returns-then-a-lt-SCHEMA_NEEDED : goal.returns-then-a-lt-SCHEMA_NEEDED
unfolding lent
returns-then-a-lt-SCHEMA_NEEDED c = short-schema _ c.if-a-lt-SCHEMA_NEEDED.true

pub returns-then-g-lt15880 : goal.returns-then-g-lt15880
unfolding lent
returns-then-g-lt15880 c = short_nodes _ c.if-a-lt-SCHEMA_NEEDED.false c.if-g-lt15880.true

pub returns-then-p-lt14344 : goal.returns-then-p-lt14344
unfolding lent
returns-then-p-lt14344 c = short-properties _ c.if-a-lt-SCHEMA_NEEDED.false c.if-g-lt15880.false c.if-p-lt14344.true

pub returns-then-v-lt8200 : goal.returns-then-v-lt8200
unfolding lent
returns-then-v-lt8200 c = short-values _ c.if-a-lt-SCHEMA_NEEDED.false c.if-g-lt15880.false c.if-p-lt14344.false c.if-v-lt8200.true

pub returns-then-ix-lt3072 : goal.returns-then-ix-lt3072
unfolding lent
returns-then-ix-lt3072 c =
    short_index _ c.if-a-lt-SCHEMA_NEEDED.false c.if-g-lt15880.false c.if-p-lt14344.false c.if-v-lt8200.false c.if-ix-lt3072.true

pub returns : goal.returns
unfolding lent
returns c =
    short-query _ c.if-a-lt-SCHEMA_NEEDED.false c.if-g-lt15880.false c.if-p-lt14344.false c.if-v-lt8200.false c.if-ix-lt3072.false
