-- `burst_file::format::head_of` meets its contract: each return by the tests that led there. Assumes nothing.
use mathlib.Core.Path.{sym}
use borrow.Author.Tests.{eq-eqb, ne_eqb, lt-ltb, le-ltb}
use Rattle.burst_file.specs.Head.{head_of}
use Rattle.burst_file.proofs.format.head_of.Goals as goal

pub returns-then-word_at-ne-MAGIC : goal.returns-then-word_at-ne-MAGIC
unfolding head_of
returns-then-word_at-ne-MAGIC c = rw (sym c.word_at.ensures, ne_eqb _ _ c.if-word_at-ne-MAGIC.true)

pub returns-then-s-gt1 : goal.returns-then-s-gt1
unfolding head_of
returns-then-s-gt1 c =
    rw (sym c.word_at.ensures, eq-eqb _ _ c.if-word_at-ne-MAGIC.false, lt-ltb _ _ c.if-s-gt1.true)

pub returns-then-s-gt1-2 : goal.returns-then-s-gt1-2
unfolding head_of
returns-then-s-gt1-2 c =
    rw (sym c.word_at.ensures, eq-eqb _ _ c.if-word_at-ne-MAGIC.false, le-ltb _ _ c.if-s-gt1.false, lt-ltb _ _ c.if-s-gt1-2.true)

pub returns-then-unused-ne0 : goal.returns-then-unused-ne0
unfolding head_of
returns-then-unused-ne0 c =
    rw (
      sym c.word_at.ensures,
      eq-eqb _ _ c.if-word_at-ne-MAGIC.false,
      le-ltb _ _ c.if-s-gt1.false,
      le-ltb _ _ c.if-s-gt1-2.false,
      sym c.word_at-2.ensures,
      sym c.unused.ensures,
      ne_eqb _ _ c.if-unused-ne0.true,
    )

pub returns : goal.returns
unfolding head_of
returns c =
    rw (
      sym c.word_at.ensures,
      eq-eqb _ _ c.if-word_at-ne-MAGIC.false,
      le-ltb _ _ c.if-s-gt1.false,
      le-ltb _ _ c.if-s-gt1-2.false,
      sym c.word_at-2.ensures,
      sym c.unused.ensures,
      eq-eqb _ _ c.if-unused-ne0.false,
      sym c.layout_of.ensures,
      sym c.word_at-3.ensures,
      sym c.word_at-4.ensures,
    ) c.fields.ensures
