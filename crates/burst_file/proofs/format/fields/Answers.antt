-- `burst_file::format::fields` meets its contract: each return by the tests that led there. Assumes nothing.
use mathlib.Core.Path.{sym}
use borrow.Author.Tests.{lt-ltb, le-ltb}
use Rattle.burst_file.specs.Head.{fields_of}
use Rattle.burst_file.proofs.format.fields.Goals as goal

pub returns-then-not-is_named : goal.returns-then-not-is_named
unfolding fields_of
returns-then-not-is_named c = rw (sym c.is_named.ensures, c.if-not-is_named.true)

pub returns-then-not-is_layout : goal.returns-then-not-is_layout
unfolding fields_of
returns-then-not-is_layout c =
    rw (sym c.is_named.ensures, c.if-not-is_named.false, sym c.is_layout.ensures, c.if-not-is_layout.true)

pub returns-then-bits-gt10240 : goal.returns-then-bits-gt10240
unfolding fields_of
returns-then-bits-gt10240 c =
    rw (
      sym c.is_named.ensures,
      c.if-not-is_named.false,
      sym c.is_layout.ensures,
      c.if-not-is_layout.false,
      lt-ltb _ _ c.if-bits-gt10240.true,
    )

pub returns-then-not-has_window : goal.returns-then-not-has_window
unfolding fields_of
returns-then-not-has_window c =
    rw (
      sym c.is_named.ensures,
      c.if-not-is_named.false,
      sym c.is_layout.ensures,
      c.if-not-is_layout.false,
      le-ltb _ _ c.if-bits-gt10240.false,
      sym c.has_window.ensures,
      c.if-not-has_window.true,
    )

pub returns : goal.returns
unfolding fields_of
returns c =
    rw (
      sym c.is_named.ensures,
      c.if-not-is_named.false,
      sym c.is_layout.ensures,
      c.if-not-is_layout.false,
      le-ltb _ _ c.if-bits-gt10240.false,
      sym c.has_window.ensures,
      c.if-not-has_window.false,
    )
