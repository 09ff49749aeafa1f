-- The ranges of spans and of rows. Assumes nothing.
use Rattle.std.specs.Prelude.{◌≡◌, ℕ, List, true, false, Option, MatchOption, from_bits, codes}
use Rattle.std.specs.Float.{binary64}
use Rattle.spans.specs.declared.kind.Kind.{Kind}
use Rattle.spans.specs.declared.kind.Kind.TheVariants as kind
use Rattle.spans.specs.declared.real.RealSpan.{RealSpan}
use Rattle.spans.specs.declared.whole.WholeSpan.{WholeSpan}
use Rattle.spans.specs.declared.row.SpanRow.{SpanRow}
use Rattle.spans.specs.declared.row.SpanRow.TheVariants as row
use Rattle.spans.specs.declared.span.Span.{Span}
use Rattle.spans.specs.declared.span.Span.TheVariants as span
use Rattle.spans.specs.Ranges.{Range, whole, real, sound}

abbrev pub whole_range : WholeSpan → Range
whole_range s = whole s.low s.high

abbrev pub real_range : RealSpan → Range
real_range s = real s.low s.high

abbrev pub range : Span → Range
range (span.Whole s) = whole_range s
range (span.Real s) = real_range s

-- a row holds real bounds as bit patterns
abbrev pub row_range : SpanRow → Range
row_range (row.Whole l h) = whole l h
row_range (row.Real l h) = real (from_bits binary64 l) (from_bits binary64 h)

abbrev pub kind_of : Range → Kind
kind_of (whole l h) = kind.Whole
kind_of (real l h) = kind.Real

-- a span exactly where the range is sound
abbrev pub Checked : Range → Option Span → Type 0
Checked a r = MatchOption r (sound a ≡ false) (λ s. (sound a ≡ true) × (range s ≡ a))

-- what is printed where a row's bounds make no span
abbrev pub no_span : List ℕ
no_span = codes "the bounds are not those of a span"
