use mathlib.Core.Path.{sym}
use Rattle.colour.proofs.Law.Texts.{long-is}
use Rattle.colour.proofs.text.long_hex.Goals as goal

pub returns-in_err-hex_byte : goal.returns-in_err-hex_byte
returns-in_err-hex_byte c =
    rw (c.from_residual.ensures, long-is, sym c.hex_byte.ensures, c.in_err-hex_byte.was)

pub returns-in_err-hex_byte-2 : goal.returns-in_err-hex_byte-2
returns-in_err-hex_byte-2 c =
    rw (c.from_residual-in_err-hex_byte-2.ensures, long-is, sym c.hex_byte.ensures, sym c.hex_byte-2.ensures, c.in_ok-hex_byte.was, c.in_err-hex_byte-2.was)

pub returns-in_err-hex_byte-3 : goal.returns-in_err-hex_byte-3
returns-in_err-hex_byte-3 c =
    rw (
      c.from_residual-in_err-hex_byte-3.ensures,
      long-is,
      sym c.hex_byte.ensures,
      sym c.hex_byte-2.ensures,
      sym c.hex_byte-3.ensures,
      c.in_ok-hex_byte.was,
      c.in_ok-hex_byte-2.was,
      c.in_err-hex_byte-3.was,
    )

pub returns : goal.returns
returns c =
    rw (
      long-is,
      sym c.hex_byte.ensures,
      sym c.hex_byte-2.ensures,
      sym c.hex_byte-3.ensures,
      c.in_ok-hex_byte.was,
      c.in_ok-hex_byte-2.was,
      c.in_ok-hex_byte-3.was,
      c.of_bytes.ensures,
    )
