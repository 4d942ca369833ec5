-- Each statement determines how a call ends: its result, and what stands behind each `&mut`. Assumes nothing.
use Rattle.theory.specs.Statements.{Determined}
use Rattle.theory.proofs.Statements.{result}
use Rattle.shapes.specs.contracts.shape.listed as listed
use Rattle.shapes.proofs.shape.listed.Reads as listed_reads
use Rattle.shapes.specs.contracts.shape.tables as tables
use Rattle.shapes.proofs.shape.tables.Reads as tables_reads
use Rattle.shapes.specs.contracts.shape.ListedShape.m as m
use Rattle.shapes.proofs.shape.ListedShape.m.Reads as m_reads
use Rattle.shapes.specs.contracts.shape.ListedShape.first_bit as first_bit
use Rattle.shapes.proofs.shape.ListedShape.first_bit.Reads as first_bit_reads
use Rattle.shapes.specs.contracts.shape.ListedShape.bits as bits
use Rattle.shapes.proofs.shape.ListedShape.bits.Reads as bits_reads
use Rattle.shapes.specs.contracts.shape.ListedShape.buckets as buckets
use Rattle.shapes.proofs.shape.ListedShape.buckets.Reads as buckets_reads
use Rattle.shapes.specs.contracts.shape.ListedShape.starts_before as starts_before
use Rattle.shapes.proofs.shape.ListedShape.starts_before.Reads as starts_before_reads
use Rattle.shapes.specs.contracts.shape.ListedShapeTryFromShape.try_from as try_from
use Rattle.shapes.proofs.shape.ListedShapeTryFromShape.try_from.Reads as try_from_reads
use Rattle.shapes.specs.contracts.accepted.refused_early as refused_early
use Rattle.shapes.proofs.accepted.refused_early.Reads as refused_early_reads
use Rattle.shapes.specs.contracts.accepted.Accepted.of as of
use Rattle.shapes.proofs.accepted.Accepted.of.Reads as of_reads
use Rattle.shapes.specs.contracts.accepted.Accepted.entries as entries
use Rattle.shapes.proofs.accepted.Accepted.entries.Reads as entries_reads
use Rattle.shapes.specs.contracts.accepted.Accepted.mark_words as mark_words
use Rattle.shapes.proofs.accepted.Accepted.mark_words.Reads as mark_words_reads
use Rattle.shapes.specs.contracts.accepted.Accepted.star as star
use Rattle.shapes.proofs.accepted.Accepted.star.Reads as star_reads
use Rattle.shapes.specs.contracts.shape.ListedShape.words as words
use Rattle.shapes.proofs.shape.ListedShape.words.Reads as words_reads
use Rattle.shapes.specs.contracts.shape.ListedShape.q as q
use Rattle.shapes.proofs.shape.ListedShape.q.Reads as q_reads

pub listed-Determined : Determined listed.ended listed_reads.Post
listed-Determined κs a x y = result

pub tables-Determined : Determined tables.ended tables_reads.Post
tables-Determined κs a x y = result

pub m-Determined : Determined m.ended m_reads.Post
m-Determined κs a x y = result

pub first_bit-Determined : Determined first_bit.ended first_bit_reads.Post
first_bit-Determined κs a x y = result

pub bits-Determined : Determined bits.ended bits_reads.Post
bits-Determined κs a x y p q = result p.0 q.0

pub buckets-Determined : Determined buckets.ended buckets_reads.Post
buckets-Determined κs a x y = result

pub starts_before-Determined : Determined starts_before.ended starts_before_reads.Post
starts_before-Determined κs a x y = result

pub try_from-Determined : Determined try_from.ended try_from_reads.Post
try_from-Determined κs a x y = result

pub refused_early-Determined : Determined refused_early.ended refused_early_reads.Post
refused_early-Determined κs a x y = result

pub of-Determined : Determined of.ended of_reads.Post
of-Determined κs a x y = result

pub entries-Determined : Determined entries.ended entries_reads.Post
entries-Determined κs a x y p q = result p.0 q.0

pub mark_words-Determined : Determined mark_words.ended mark_words_reads.Post
mark_words-Determined κs a x y = result

pub star-Determined : Determined star.ended star_reads.Post
star-Determined κs a x y = result

pub words-Determined : Determined words.ended words_reads.Post
words-Determined κs a x y = result

pub q-Determined : Determined q.ended q_reads.Post
q-Determined κs a x y p q = result p.0 q.0
