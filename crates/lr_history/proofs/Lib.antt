mod SegmentLemmas
